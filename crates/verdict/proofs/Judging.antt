-- Laws on judging a part record by record, after some that were accepted before.
-- Assumes nothing.
use mathlib.Core.Path.{◌≡◌, refl, ap, ◌∙◌}
use mathlib.Core.List.{List}
use Prim.Native.Nat.{ℕ, zero, suc, ◌+◌, ◌≤◌, ◌<◌}
use native.Mathlib.Nat.{zero-add, add-zero}
use native.Mathlib.Omega.{arith}
use lib.ListN.{length, drop}
use Rattle.limits.specs.declared.Table.{Table}
use Rattle.promises.proofs.Runs.{counted, counted_one, goes_on, stops}
use Rattle.shift.specs.declared.State.{State}
use Rattle.shift.specs.declared.Answer.{Answer}
use Rattle.shift.specs.States.{start}
use Rattle.shift.specs.Answers.{judged}
use Rattle.shift.specs.Runs.{Outcome, run}
use Rattle.stepfile.specs.Records.{records_in}
use Rattle.stepfile.specs.Files.{Refusal, table_in, refusal_of, readings_of}
use Rattle.stepfile.proofs.RecordLaws.{record_at, one_more, no_more}
use Rattle.verdict.specs.Verdicts.{of_run, unread, reading, verdict_of}

-- what is left of a part from a place on
abbrev pub left : Table → List ℕ → State → ℕ → ℕ → Outcome
left t l s k i = counted k (run t s (records_in (drop i l)))

module _ (t : Table) (l : List ℕ) (s : State) (k i : ℕ) where
  module _ (h : i + 3 < length l) (a : Answer) (e : a ≡ judged t s (record_at l i)) where
    pub accepted : a.number ≡ 0 → left t l s k i ≡ left t l a.state (k + 1) (i + 4)
    accepted z =
        let rest = records_in (drop (i + 4) l) in
        ap (λ rs. counted k (run t s rs)) (one_more l i h)
        ∙ ap (counted k) (goes_on t s (record_at l i) rest a e z)
        ∙ counted_one k s (run t a.state rest)

    pub refused : ¬ (a.number ≡ 0) → left t l s k i ≡ record { count = k; number = a.number; excess = a.excess; state = s }
    refused n =
        ap (λ rs. counted k (run t s rs)) (one_more l i h)
        ∙ ap (counted k) (stops t s (record_at l i) (records_in (drop (i + 4) l)) a e n)
        ∙ ap (λ c. record { count = c; number = a.number; excess = a.excess; state = s }) (add-zero k)

  pub ended : length l ≤ i + 3 → left t l s k i ≡ record { count = k; number = 0; excess = 0; state = s }
  ended h =
      ap (λ rs. counted k (run t s rs)) (no_more l i h) ∙ ap (λ c. record { count = c; number = 0; excess = 0; state = s }) (add-zero k)

-- ---- of a whole part nothing is judged before
module _ (t : Table) (l : List ℕ) (s : State) where
  pub all_left : left t l s 0 0 ≡ run t s (records_in l)
  all_left = rw zero-add

-- ---- a file that is not read, and one that is
not_read : (k : ℕ) (r : Refusal) (o : Outcome) → ¬ (k ≡ 0) → unread r ≡ reading k r o
not_read zero r o n = absurd (n refl)
not_read (suc k) r o n = refl

read : (k : ℕ) (r : Refusal) (o : Outcome) → k ≡ 0 → of_run o ≡ reading k r o
read zero r o z = refl
read (suc k) r o z = absurd (omega arith)

module _ (f : List ℕ) where
  pub unread_file : ¬ ((refusal_of f).number ≡ 0) → unread (refusal_of f) ≡ verdict_of f
  unread_file = not_read (refusal_of f).number (refusal_of f) (run (table_in f) start (readings_of f))

  pub read_verdict : (refusal_of f).number ≡ 0 → of_run (run (table_in f) start (readings_of f)) ≡ verdict_of f
  read_verdict = read (refusal_of f).number (refusal_of f) (run (table_in f) start (readings_of f))
