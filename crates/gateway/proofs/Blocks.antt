-- A block of records at once is its records one by one, and may be cut in two behind a record.
-- Assumes nothing.
use mathlib.Core.Path.{◌≡◌, refl, ap, ◌∙◌}
use mathlib.Core.Bool.{Bool, true, false, cond}
use mathlib.Core.List.{List, [], ◌∷◌, ◌++◌}
use Prim.Native.Nat.{ℕ, zero, suc, ◌*◌, ◌≤◌, ◌<◌}
use native.Mathlib.Nat.{zero-add, suc-add}
use native.Mathlib.Omega.{arith}
use lib.Dec.{eqb}
use lib.ListN.{length}
use Rattle.limits.specs.declared.Table.{Table}
use Rattle.limits.specs.Rules.{broken_rule}
use Rattle.shift.specs.declared.State.{State}
use Rattle.shift.specs.Answers.{guard, led, excess, answer, judged, admitting}
use Rattle.shift.specs.Runs.{Outcome, ended, after, run}
use Rattle.shift.proofs.AnswerLaws.{breaks}
use Rattle.promises.proofs.Runs.{resumed, joined}
use Rattle.stepfile.specs.Records.{record_of, records_in}
use Rattle.verdict.specs.Verdicts.{of_run}
use Rattle.verdict.proofs.Verdicts.{outcome}
use Rattle.gateway.specs.Advancing.{advanced_on, advancing, block_on}
use Rattle.gateway.proofs.Running.{one_by_one}

-- of a block the count, the number, the excess and the state are those of its records one by one, whatever the table
pub a_block_is_its_records_one_by_one : (t : Table) (s : State) (l : List ℕ) → outcome (block_on t s l) ≡ advancing t s l
unfolding block_on
a_block_is_its_records_one_by_one t s l = refl

-- ---- what is answered, by the table

no_rule : (b : Bool) → cond {A = ℕ} b 0 0 ≡ 0
no_rule true = refl
no_rule false = refl

pub admitted : (t : Table) (s : State) (l : List ℕ) → broken_rule t ≡ 0 → of_run (run t s (records_in l)) ≡ block_on t s l
unfolding block_on
admitted t s l z = rw (← one_by_one t s l z, z, no_rule (eqb (advancing t s l).number 4))

pub no_record :
    (t : Table) (s : State) (l : List ℕ) → length l < 4 → record { number = 0; rule = 0; index = 0; excess = 0; state = s } ≡ block_on t s l
unfolding block_on
no_record t s [] h = refl
no_record t s (a ∷ []) h = refl
no_record t s (a ∷ b ∷ []) h = refl
no_record t s (a ∷ b ∷ c ∷ []) h = refl
no_record t s (a ∷ b ∷ c ∷ d ∷ l) h = absurd (omega arith)

pub not_admitted :
    (t : Table) (s : State) (l : List ℕ) → ¬ (broken_rule t ≡ 0) → 4 ≤ length l
    → record { number = 4; rule = broken_rule t; index = 0; excess = 0; state = s } ≡ block_on t s l
unfolding block_on advanced_on
not_admitted t s [] n h = absurd (omega arith)
not_admitted t s (a ∷ []) n h = absurd (omega arith)
not_admitted t s (a ∷ b ∷ []) n h = absurd (omega arith)
not_admitted t s (a ∷ b ∷ c ∷ []) n h = absurd (omega arith)
not_admitted t s (a ∷ b ∷ c ∷ d ∷ l) n h = rw (← breaks (broken_rule t) (judged t s (record_of a b c d)) s n)

-- a block of one record is the answer to it
of_one :
    (k g over : ℕ) (next s : State)
    → (let a = admitting k (answer g over next s) s in
    let o = after a.number a.excess s (ended a.state) in
    record { number = o.number; rule = cond (eqb o.number 4) k 0; excess = o.excess; state = o.state })
    ≡ admitting k (answer g over next s) s
of_one zero zero over next s = refl
of_one zero (suc g) over next s = rw (no_rule (eqb (suc g) 4))
of_one (suc k) g over next s = refl

pub a_block_of_one_record :
    (t : Table) (s : State) (a b c d : ℕ)
    → (let v = block_on t s (a ∷ b ∷ c ∷ d ∷ []) in record { number = v.number; rule = v.rule; excess = v.excess; state = v.state })
    ≡ advanced_on t s a b c d
unfolding block_on advanced_on
a_block_of_one_record t s a b c d =
    let r = record_of a b c d in
    of_one (broken_rule t) (guard t s r) (excess t s r (guard t s r)) (led s r) s

-- ---- a block cut in two behind a record: the first part's outcome where it is refused, else the second's from the state that the
-- first leads to, with the counts added

resumes :
    (s : State) (k over : ℕ) (a : Outcome) (rest : State → Outcome)
    → after k over s (joined a (rest a.state)) ≡ joined (after k over s a) (rest (after k over s a).state)
resumes s zero over a rest = go a.number
  where
    go : (n : ℕ) → after 0 over s (resumed n a (rest a.state)) ≡ resumed n (after 0 over s a) (rest a.state)
    go zero = rw suc-add
    go (suc n) = refl
resumes s (suc k) over a rest = refl

in_two :
    (t : Table) (s : State) (n : ℕ) (xs ys : List ℕ) → length xs ≡ 4 * n
    → advancing t s (xs ++ ys) ≡ joined (advancing t s xs) (advancing t (advancing t s xs).state ys)
in_two t s n [] ys e = rw zero-add
in_two t s n (a ∷ []) ys e = absurd (omega arith)
in_two t s n (a ∷ b ∷ []) ys e = absurd (omega arith)
in_two t s n (a ∷ b ∷ c ∷ []) ys e = absurd (omega arith)
in_two t s zero (a ∷ b ∷ c ∷ d ∷ xs) ys e = absurd (omega arith)
in_two t s (suc n) (a ∷ b ∷ c ∷ d ∷ xs) ys e =
    let x = advanced_on t s a b c d in
    ap (after x.number x.excess s) (in_two t x.state n xs ys (omega arith))
    ∙ resumes s x.number x.excess (advancing t x.state xs) (λ q. advancing t q ys)

pub blocks_one_after_another :
    (t : Table) (s : State) (n : ℕ) (xs ys : List ℕ) → length xs ≡ 4 * n
    → let v = block_on t s xs in
    outcome (block_on t s (xs ++ ys)) ≡ joined (outcome v) (outcome (block_on t v.state ys))
unfolding block_on
blocks_one_after_another = in_two
