-- Document 01, "Numbers for what is refused": one record's four bytes on any given state and table, a part's records one by one, and a
-- block of records at once.
-- Assumes nothing.
use Rattle.std.specs.Prelude.{cond, List, [], ◌∷◌, ℕ, eqb}
use Rattle.limits.specs.declared.Table.{Table}
use Rattle.limits.specs.Rules.{broken_rule}
use Rattle.shift.specs.declared.State.{State}
use Rattle.shift.specs.declared.Answer.{Answer}
use Rattle.shift.specs.Answers.{judged, admitting}
use Rattle.shift.specs.Runs.{Outcome, ended, after}
use Rattle.stepfile.specs.Records.{record_of}
use Rattle.verdict.specs.declared.Verdict.{Verdict}

-- 4, with the rule, comes before all else
unfoldable pub advanced_on : Table → State → ℕ → ℕ → ℕ → ℕ → Answer
advanced_on t s code middle low high = admitting (broken_rule t) (judged t s (record_of code middle low high)) s

-- four bytes a call, each on the state that the one before answered, up to the first number that is not 0: how many were accepted,
-- that number with its excess, and the state before it; what is left over is no record
abbrev pub advancing : Table → State → List ℕ → Outcome
advancing t s [] = ended s
advancing t s (a ∷ []) = ended s
advancing t s (a ∷ b ∷ []) = ended s
advancing t s (a ∷ b ∷ c ∷ []) = ended s
advancing t s (a ∷ b ∷ c ∷ d ∷ rest) =
    let x = advanced_on t s a b c d in
    after x.number x.excess s (advancing t x.state rest)

-- a block is its records one by one: the index is how many were accepted, and 4 comes with the rule
unfoldable pub block_on : Table → State → List ℕ → Verdict
block_on t s l =
    let o = advancing t s l in
    record { number = o.number; rule = cond (eqb o.number 4) (broken_rule t) 0; index = o.count; excess = o.excess; state = o.state }
