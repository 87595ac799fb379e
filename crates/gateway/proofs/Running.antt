-- Advancing record by record from the start state answers what judging the whole file answers.
-- Assumes nothing.
use mathlib.Core.Path.{◌≡◌, refl, ap, ◌∙◌}
use mathlib.Core.List.{List, [], ◌∷◌}
use Prim.Native.Nat.{ℕ, zero, suc}
use Rattle.limits.specs.declared.Table.{Table}
use Rattle.limits.specs.Rules.{broken_rule}
use Rattle.shift.specs.declared.State.{State}
use Rattle.shift.specs.declared.Answer.{Answer}
use Rattle.shift.specs.States.{start}
use Rattle.shift.specs.Answers.{guard, led, excess, answer, judged, admitting}
use Rattle.shift.specs.Runs.{Outcome, after, run}
use Rattle.stepfile.specs.Records.{record_of, records_in}
use Rattle.stepfile.specs.Files.{table_in, refusal_of, record_bytes}
use Rattle.stepfile.proofs.WholeLaws.{good_file}
use Rattle.verdict.specs.Verdicts.{verdict_of}
use Rattle.verdict.proofs.Verdicts.{outcome}
use Rattle.verdict.proofs.Judging.{read_verdict}
use Rattle.gateway.specs.Advancing.{advanced_on, advancing}

-- under an admitted table a record is answered by what it means
pub advances :
    (t : Table) (s : State) (a b c d : ℕ) → broken_rule t ≡ 0 → advanced_on t s a b c d ≡ judged t s (record_of a b c d)
unfolding advanced_on
advances t s a b c d z = ap (λ (k : ℕ). admitting k (judged t s (record_of a b c d)) s) z

-- going on by the answer is going on by the guard
by_guard :
    (k over : ℕ) (next s : State) (rest : State → Outcome)
    → (let a = answer k over next s in after a.number a.excess s (rest a.state)) ≡ after k over s (rest next)
by_guard zero over next s rest = refl
by_guard (suc k) over next s rest = refl

-- record by record is the run over what the records mean, from any state
pub one_by_one :
    (t : Table) (s : State) (l : List ℕ) → broken_rule t ≡ 0 → advancing t s l ≡ run t s (records_in l)
one_by_one t s [] z = refl
one_by_one t s (a ∷ []) z = refl
one_by_one t s (a ∷ b ∷ []) z = refl
one_by_one t s (a ∷ b ∷ c ∷ []) z = refl
one_by_one t s (a ∷ b ∷ c ∷ d ∷ rest) z =
    let r = record_of a b c d in
    let over = excess t s r (guard t s r) in
    ap (λ (x : Answer). after x.number x.excess s (advancing t x.state rest)) (advances t s a b c d z)
    ∙ by_guard (guard t s r) over (led s r) s (λ q. advancing t q rest)
    ∙ ap (after (guard t s r) over s) (one_by_one t (led s r) rest z)

-- the records of a good file, from the start state: the count is the verdict's index, the number and the state are the verdict's
pub advancing_is_judging :
    (f : List ℕ) → (refusal_of f).number ≡ 0 → advancing (table_in f) start (record_bytes f) ≡ outcome (verdict_of f)
advancing_is_judging f z =
    one_by_one (table_in f) start (record_bytes f) (good_file f z).admitted ∙ ap outcome (read_verdict f z)
