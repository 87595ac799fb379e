-- What a code, a middle byte and an amount mean, and the number of what is no step, are what the words of specs/Refusals.antt say: of the
-- definitions, and of the contracts.
-- Assumes nothing.
use mathlib.Core.Path.{◌≡◌, refl, sym, ◌∙◌}
use mathlib.Core.Logic.{inl, inr, ⊎_elim}
use mathlib.Core.Bool.{Bool, true, false, cond, ◌&&◌}
use Prim.Native.Nat.{ℕ, ◌≤◌, ◌<◌}
use native.Mathlib.Decide.{dec_lt}
use native.Mathlib.Omega.{arith}
use lib.Dec.{T, leb, eqb, leb→le, le→leb, eqb→eq}
use Rattle.std.specs.Prelude.{Ok, Err}
use Rattle.checks.specs.Conditions.{FirstOf}
use Rattle.checks.proofs.Tests.{eq→eqb, left, right, both}
use Rattle.checks.proofs.Ranges.{below}
use Rattle.shift.specs.declared.Step.{Step}
use Rattle.shift.specs.declared.Step.TheVariants.{FromNeutral, GearToGear, ToNeutral, Deliver, DeviceGood, DeviceFailed, EngineWaits, Take, AskClutch, RaiseError, Finish, Tick, Reset}
use Rattle.shift.specs.Readings.{Reading}
use Rattle.shift.specs.declared.Misread.TheVariants.{WrongCode, WrongAmount}
use Rattle.shift.specs.Refusals.{code_of, amount_of, NoCode, Formed, Reads, refusals}
use Rattle.shift.specs.Answers.{plain, ticking, reading, refusal}
use Rattle.shift.proofs.ReadingLaws.{past_codes}
use Rattle.shift.proofs.Step.of.Reads as of_reads
use Rattle.shift.proofs.refusal_of.Reads as refusal_of_reads

-- ---- what a code, a middle byte and an amount mean
pub a_code : (code : ℕ) → 1 ≤ code → code ≤ 13 → ¬ NoCode code
a_code code l m h = ⊎_elim (λ e. omega arith) (λ e. omega arith) h

module _ (middle amount : ℕ) where
  of_test :
      (b : Bool) (code : ℕ) (x : Step) → ¬ NoCode code → (T b → Formed code middle amount) → (Formed code middle amount → T b)
      → code_of x ≡ code → (T b → amount_of x ≡ amount)
      → Reads code middle amount (cond b (Ok x) (Err WrongAmount))
  of_test true code x k f g c n = (k, f tt, c, n tt)
  of_test false code x k f g c n = (k, g)

  -- a step with an amount of 0 and a code of its own
  abbrev Plain : Step → Type 0
  Plain x = (1 ≤ code_of x) × (code_of x ≤ 13) × ¬ (code_of x ≡ 12) × (amount_of x ≡ 0)

  of_plain : (x : Step) → Plain x → Reads (code_of x) middle amount (plain x middle amount)
  of_plain x o =
      let m = eqb middle 0 in
      let a = eqb amount 0 in
      of_test (m && a) (code_of x) x (a_code (code_of x) o.0 o.1)
      (λ h. record {
        middle_byte = eqb→eq middle 0 (left m a h);
        plain = λ _. eqb→eq amount 0 (right m a h);
        tick = λ e. absurd (o.2 e);
      })
      (λ f. both m a (eq→eqb middle 0 f.middle_byte) (eq→eqb amount 0 (f.plain o.2)))
      refl
      (λ h. o.3 ∙ sym (eqb→eq amount 0 (right m a h)))

  of_tick : Reads 12 middle amount (ticking middle amount)
  of_tick =
      let m = eqb middle 0 in
      let low = leb 1 amount in
      let high = leb amount 65535 in
      of_test (m && (low && high)) 12 (Tick amount) (a_code 12 (omega arith) (omega arith))
      (λ h. record {
        middle_byte = eqb→eq middle 0 (left m (low && high) h);
        plain = λ n. absurd (n refl);
        tick = λ _. let r = right m (low && high) h in (leb→le 1 amount (left low high r), leb→le amount 65535 (right low high r));
      })
      (λ f. let r = f.tick refl in both m (low && high) (eq→eqb middle 0 f.middle_byte) (both low high (le→leb 1 amount r.0) (le→leb amount 65535 r.1)))
      refl
      (λ h. refl)

  by_code : (code : ℕ) → code < 14 → Reads code middle amount (reading code middle amount)
  by_code =
      below (λ code. Reads code middle amount (reading code middle amount)) 14
      ((((((((((((((tt, inl refl), of_plain FromNeutral (omega arith)), of_plain GearToGear (omega arith)), of_plain ToNeutral (omega arith)), of_plain Deliver (omega arith)), of_plain DeviceGood (omega arith)), of_plain DeviceFailed (omega arith)), of_plain EngineWaits (omega arith)), of_plain Take (omega arith)), of_plain AskClutch (omega arith)), of_plain RaiseError (omega arith)), of_plain Finish (omega arith)), of_tick), of_plain Reset (omega arith))

  pub reads : (code : ℕ) → Reads code middle amount (reading code middle amount)
  reads code =
      elim (dec_lt code 14) [
        | yes h ↦ by_code code h
        | no h ↦ rw (past_codes middle amount code (omega arith)) (inr (omega arith))
      ]

-- ---- the number of what is no step
refused_so :
    (code middle amount : ℕ) (r : Reading) → Reads code middle amount r → FirstOf (refusals code middle amount) (refusal r)
refused_so code middle amount (Ok x) h = inr (h.0, inr (λ n. n h.1, refl))
refused_so code middle amount (Err WrongCode) h = inl (h, refl)
refused_so code middle amount (Err WrongAmount) h = inr (h.0, inl (h.1, refl))

pub in_order : (code middle amount : ℕ) → FirstOf (refusals code middle amount) (refusal (reading code middle amount))
in_order code middle amount = refused_so code middle amount (reading code middle amount) (reads middle amount code)

-- ---- of the contracts
pub of :
    (κs : _) (a : _) (r : _) (at : _) → of_reads.Post κs a r at → Reads a.0 a.1.0 a.1.1.0 r
of κs a r at p = rw p (reads a.1.0 a.1.1.0 a.0)

pub refusal_of :
    (κs : _) (a : _) (r : _) (at : _) → refusal_of_reads.Post κs a r at → FirstOf (refusals a.0 a.1.0 a.1.1.0) r
refusal_of κs a r at p = rw p (in_order a.0 a.1.0 a.1.1.0)
