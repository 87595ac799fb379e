-- A record's code and amount are those of the step that it means.
-- Assumes nothing.
use mathlib.Core.Path.{◌≡◌, refl, sym, ap}
use mathlib.Core.Bool.{Bool, true, false, cond, ◌&&◌}
use Prim.Native.Nat.{ℕ, zero, suc}
use native.Mathlib.Omega.{arith}
use lib.Dec.{leb, eqb, eqb→eq}
use Rattle.std.specs.Prelude.{Ok, Err}
use Rattle.checks.proofs.Tests.{passes, right}
use Rattle.shift.specs.declared.Step.{Step}
use Rattle.shift.specs.declared.Step.TheVariants.{FromNeutral, GearToGear, ToNeutral, Deliver, DeviceGood, DeviceFailed, EngineWaits, Take, AskClutch, RaiseError, Finish, Tick, Reset}
use Rattle.shift.specs.Readings.{Reading}
use Rattle.shift.specs.declared.Misread.TheVariants.{WrongCode, WrongAmount}
use Rattle.shift.specs.Answers.{reading, plain, ticking}

abbrev pub code_of : Step → ℕ
code_of FromNeutral = 1
code_of GearToGear = 2
code_of ToNeutral = 3
code_of Deliver = 4
code_of DeviceGood = 5
code_of DeviceFailed = 6
code_of EngineWaits = 7
code_of Take = 8
code_of AskClutch = 9
code_of RaiseError = 10
code_of Finish = 11
code_of (Tick n) = 12
code_of Reset = 13

abbrev pub amount_of : Step → ℕ
amount_of FromNeutral = 0
amount_of GearToGear = 0
amount_of ToNeutral = 0
amount_of Deliver = 0
amount_of DeviceGood = 0
amount_of DeviceFailed = 0
amount_of EngineWaits = 0
amount_of Take = 0
amount_of AskClutch = 0
amount_of RaiseError = 0
amount_of Finish = 0
amount_of (Tick n) = n
amount_of Reset = 0

-- the step of a reading, and one where there is none
abbrev meant : Reading → Step
meant (Ok x) = x
meant (Err WrongCode) = Reset
meant (Err WrongAmount) = Reset

module _ (m n : ℕ) (x : Step) where
  abbrev Own : ℕ → Type 0
  Own code = (code_of x ≡ code) × (amount_of x ≡ n)

  none : {A : Type 0} → ◌≡◌ {A = Reading} (Err WrongCode) (Ok x) → A
  none e = let z : ◌≡◌ {A = ℕ} 0 1 = cc in absurd (omega arith)

  chosen : (q : Bool) (s : Step) → cond {A = Reading} q (Ok s) (Err WrongAmount) ≡ Ok x → (q ≡ true) × (s ≡ x)
  chosen true s e = (refl, ap meant e)
  chosen false s e = let z : ◌≡◌ {A = ℕ} 0 1 = cc in absurd (omega arith)

  plainly : (s : Step) → amount_of s ≡ 0 → plain s m n ≡ Ok x → Own (code_of s)
  plainly s z e =
      let c = chosen (eqb m 0 && eqb n 0) s e in
      let w = eqb→eq n 0 (right (eqb m 0) (eqb n 0) (passes (eqb m 0 && eqb n 0) c.0)) in
      let a = ap amount_of c.1 in
      (ap code_of (sym c.1), omega arith)

  ticks : ticking m n ≡ Ok x → Own 12
  ticks e =
      let c = chosen (eqb m 0 && (leb 1 n && leb n 65535)) (Tick n) e in
      (ap code_of (sym c.1), ap amount_of (sym c.1))

  pub its_own : (code : ℕ) → reading code m n ≡ Ok x → Own code
  its_own zero e = none e
  its_own (suc zero) e = plainly FromNeutral refl e
  its_own (suc (suc zero)) e = plainly GearToGear refl e
  its_own (suc (suc (suc zero))) e = plainly ToNeutral refl e
  its_own (suc (suc (suc (suc zero)))) e = plainly Deliver refl e
  its_own (suc (suc (suc (suc (suc zero))))) e = plainly DeviceGood refl e
  its_own (suc (suc (suc (suc (suc (suc zero)))))) e = plainly DeviceFailed refl e
  its_own (suc (suc (suc (suc (suc (suc (suc zero))))))) e = plainly EngineWaits refl e
  its_own (suc (suc (suc (suc (suc (suc (suc (suc zero)))))))) e = plainly Take refl e
  its_own (suc (suc (suc (suc (suc (suc (suc (suc (suc zero))))))))) e = plainly AskClutch refl e
  its_own (suc (suc (suc (suc (suc (suc (suc (suc (suc (suc zero)))))))))) e = plainly RaiseError refl e
  its_own (suc (suc (suc (suc (suc (suc (suc (suc (suc (suc (suc zero))))))))))) e = plainly Finish refl e
  its_own (suc (suc (suc (suc (suc (suc (suc (suc (suc (suc (suc (suc zero)))))))))))) e = ticks e
  its_own (suc (suc (suc (suc (suc (suc (suc (suc (suc (suc (suc (suc (suc zero))))))))))))) e = plainly Reset refl e
  its_own (suc (suc (suc (suc (suc (suc (suc (suc (suc (suc (suc (suc (suc (suc c)))))))))))))) e = none e
