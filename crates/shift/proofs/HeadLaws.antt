-- Laws on a code and a middle byte as one number, the code below: when they are no step, and which number that leaves.
-- Assumes nothing.
use mathlib.Core.Path.{◌≡◌}
use mathlib.Core.Logic.{inl, inr, ⊎_elim}
use mathlib.Core.Bool.{Bool, true, false, cond, ◌&&◌}
use mathlib.Core.List.{List, [], ◌∷◌}
use Prim.Native.Nat.{ℕ, ◌/◌, ◌%◌, ◌≤◌, ◌<◌}
use native.Mathlib.Decide.{dec_lt}
use native.Mathlib.Omega.{arith}
use lib.Dec.{T, leb, eqb, eqb→eq}
use borrow.Author.Tests.{le-leb, lt-leb}
use Rattle.std.specs.Prelude.{Ok, Err}
use Rattle.phases.proofs.CaseLaws.{NoneOf, otherwise}
use Rattle.shift.specs.Readings.{Reading}
use Rattle.shift.specs.declared.Misread.{Misread}
use Rattle.shift.specs.declared.Misread.TheVariants.{WrongCode, WrongAmount}
use Rattle.shift.specs.Refusals.{NoCode, Formed, Reads}
use Rattle.shift.specs.Answers.{reading}
use Rattle.shift.proofs.Refusals.{reads}

-- what is no step, by its code
abbrev pub wrong_by : ℕ → Misread
wrong_by code = cond (leb 1 code && leb code 13) WrongAmount WrongCode

module _ (code : ℕ) where
  a_code : ¬ NoCode code → (1 ≤ code) × (code ≤ 13)
  a_code h =
      elim (dec_lt code 1) [
        | yes l ↦ absurd (h (inl (omega arith)))
        | no l ↦ elim (dec_lt 13 code) [
          | yes m ↦ absurd (h (inr m))
          | no m ↦ (omega arith, omega arith)
        ]
      ]

  module _ (middle amount : ℕ) where
    as_read :
        (r : Reading) → Reads code middle amount r → (¬ NoCode code → Formed code middle amount → ⊥) → Err (wrong_by code) ≡ r
    as_read (Ok x) h n = absurd (n h.0 h.1)
    as_read (Err WrongCode) h n =
        ⊎_elim
        (λ e. rw (lt-leb 1 code (omega arith)))
        (λ e. elim (dec_lt code 1) [ yes l ↦ rw (lt-leb 1 code l) | no l ↦ rw (le-leb 1 code (omega arith), lt-leb code 13 e) ])
        h
    as_read (Err WrongAmount) h n = let k = a_code h.0 in rw (le-leb 1 code k.0, le-leb code 13 k.1)

    pub no_step_read : (¬ NoCode code → Formed code middle amount → ⊥) → Err (wrong_by code) ≡ reading code middle amount
    no_step_read = as_read (reading code middle amount) (reads middle amount code)

-- the only number from 1 to 13 that is left by all arms but the tick's
abbrev arms : List ℕ
arms = 13 ∷ 11 ∷ 10 ∷ 9 ∷ 8 ∷ 7 ∷ 6 ∷ 5 ∷ 4 ∷ 3 ∷ 2 ∷ 1 ∷ []

holds : (b : Bool) → ◌≡◌ {A = ℕ} 1 (cond b 1 0) → T b
holds true e = tt
holds false e = absurd (omega arith)

left_over : (h : ℕ) → NoneOf arms h → 1 ≤ h → h < 14 → h ≡ 12
left_over h r l m =
    eqb→eq h 12 (holds (eqb h 12) (otherwise 1 (λ k. cond (eqb k 12) 1 0) arms 1 13 (omega arith) h l m r))

-- ---- of a number
module _ (head amount : ℕ) where
  -- with an amount it is a tick, or no step
  pub no_tick : ¬ (head ≡ 12) → ¬ (amount ≡ 0) → Err (wrong_by (head % 256)) ≡ reading (head % 256) (head / 256) amount
  no_tick n some =
      no_step_read (head % 256) (head / 256) amount (λ k f. some (f.plain (λ e. let m = f.middle_byte in n (omega arith))))

  -- without one it is one of the arms, or no step
  pub no_arm : amount ≡ 0 → NoneOf arms head → Err (wrong_by (head % 256)) ≡ reading (head % 256) (head / 256) amount
  no_arm none r =
      no_step_read (head % 256) (head / 256) amount
      (λ k f.
      let m = f.middle_byte in
      let c = a_code (head % 256) k in
      let twelve = left_over head r (omega arith) (omega arith) in
      let some = (f.tick (omega arith)).0 in
      omega arith)
