-- Laws on the records of a write against the words of specs/Refusals.antt: all of them read, or the first that does not is where the
-- writer says, with its number.
-- Assumes nothing.
use mathlib.Core.Path.{◌≡◌, refl, subst}
use mathlib.Core.Logic.{◌⊎◌, inl, inr, ⊎_elim}
use mathlib.Core.List.{List, [], ◌∷◌}
use Prim.Native.Nat.{ℕ, zero, suc, ◌+◌, ◌<◌}
use native.Mathlib.Decide.{dec_lt}
use native.Mathlib.Omega.{arith}
use lib.ListN.{length, get_or}
use Rattle.checks.specs.Conditions.{FirstOf}
use Rattle.checks.proofs.ConditionLaws.{no_other, one_of}
use Rattle.shift.specs.Answers.{reading, refusal}
use Rattle.shift.specs.Refusals.{refusals}
use Rattle.shift.proofs.Refusals.{in_order}
use Rattle.stepfile.specs.Writing.{Wrong, wrong_or, first_wrong}
use Rattle.stepfile.specs.Refusals.{WrongAt}

abbrev pub ReadsAt : List ℕ → List ℕ → ℕ → Type 0
ReadsAt cs ns i = FirstOf (refusals (get_or cs i 0) 0 (get_or ns i 0)) 0

-- of the records from the i-th on, with those before it behind them: all read, or the first that does not is where the writer says
pub record Found (cs ns : List ℕ) (i : ℕ) (w : Wrong) : Type 0 where
  pub all_read : w.number ≡ 0 → (j : ℕ) → j < length cs → ReadsAt cs ns j
  pub there : ¬ (w.number ≡ 0) → (j : ℕ) × (w.index ≡ i + j) × WrongAt cs ns w.number j

module _ (c n : ℕ) (cs ns : List ℕ) (i : ℕ) where
  found_first : (k : ℕ) → FirstOf (refusals c 0 n) k → ¬ (k ≡ 0) → Found (c ∷ cs) (n ∷ ns) i (record { number = k; index = i })
  found_first k f z =
      record {
        all_read = λ e. absurd (z e);
        there = λ _. (0, omega arith, record { in_list = omega arith; wrong = f; before = λ j l. absurd (omega arith) });
      }

  module _ (w : Wrong) (reads : FirstOf (refusals c 0 n) 0) (rest : Found cs ns (suc i) w) where
    found_later : Found (c ∷ cs) (n ∷ ns) i w
    found_later =
        record {
          all_read = λ e. earlier (rest.all_read e);
          there =
              λ z.
              let at = rest.there z in (
                suc at.0,
                omega (arith, at.1),
                record { in_list = omega (arith, at.2.in_list); wrong = at.2.wrong; before = earlier at.2.before },
              );
        }
      where
        earlier : {m : ℕ} → ((j : ℕ) → j < m → ReadsAt cs ns j) → (j : ℕ) → j < suc m → ReadsAt (c ∷ cs) (n ∷ ns) j
        earlier h zero l = reads
        earlier h (suc j) l = h j (omega arith)

pub found : (i : ℕ) (cs ns : List ℕ) → length cs ≡ length ns → Found cs ns i (first_wrong i cs ns)
found i [] ns e = record { all_read = λ _ j l. absurd (omega arith); there = λ z. absurd (z refl) }
found i (c ∷ cs) [] e = absurd (omega arith)
found i (c ∷ cs) (n ∷ ns) e =
    go (refusal (reading c 0 n)) (in_order c 0 n) (found (suc i) cs ns (omega arith))
  where
    go :
        (k : ℕ) → FirstOf (refusals c 0 n) k → Found cs ns (suc i) (first_wrong (suc i) cs ns)
        → Found (c ∷ cs) (n ∷ ns) i (wrong_or k i (first_wrong (suc i) cs ns))
    go zero f rest = found_later c n cs ns i (first_wrong (suc i) cs ns) f rest
    go (suc k) f rest = found_first c n cs ns i (suc k) f (λ z. omega arith)

-- the first record that does not read is one, and its number is one
module _ (cs ns : List ℕ) where
  pub same : (i m k : ℕ) → FirstOf (refusals (get_or cs i 0) 0 (get_or ns i 0)) m → FirstOf (refusals (get_or cs i 0) 0 (get_or ns i 0)) k
      → m ≡ k
  same i = no_other (refusals (get_or cs i 0) 0 (get_or ns i 0))

  pub one_number : (m k i j : ℕ) → WrongAt cs ns m i → WrongAt cs ns k j → ¬ (m ≡ 0) → ¬ (k ≡ 0) → m ≡ k
  one_number m k i j a b z y =
      elim (dec_lt i j) [
        | yes l ↦ absurd (z (same i m 0 a.wrong (b.before i l)))
        | no l ↦
            elim (dec_lt j i) [
              | yes h ↦ absurd (y (same j k 0 b.wrong (a.before j h)))
              | no h ↦
                  let e : i ≡ j = omega arith in
                  same j m k (subst (λ x. FirstOf (refusals (get_or cs x 0) 0 (get_or ns x 0)) m) e a.wrong) b.wrong
            ]
      ]

  pub five_or_six : (k i : ℕ) → WrongAt cs ns k i → ¬ (k ≡ 0) → (k ≡ 5) ⊎ (k ≡ 6)
  five_or_six k i a z =
      ⊎_elim (λ e. absurd (z e)) (⊎_elim (λ e. inl e) (⊎_elim (λ e. inr e) (λ e. absurd e)))
      (one_of (refusals (get_or cs i 0) 0 (get_or ns i 0)) k a.wrong)
