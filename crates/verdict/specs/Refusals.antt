-- Document 01, "Numbers for what is refused", a second time: what judging a file answers, by its number, in the words of
-- stepfile/specs/Refusals.antt, promises/specs/Refusals.antt and promises/specs/HowFar.antt. The table and what all the records mean are
-- those of Files.antt, which `FileHolds` has in words.
-- Assumes nothing.
use Rattle.std.specs.Prelude.{◌≡◌, ◌⊎◌, List, ℕ, ◌+◌, ◌≤◌, ◌<◌, get_or}
use Rattle.checks.specs.Conditions.{Condition, FirstOf}
use Rattle.shift.specs.declared.State.{State}
use Rattle.shift.specs.States.{start}
use Rattle.promises.specs.Refusals.{record_refusals}
use Rattle.promises.specs.HowFar.{HowFar}
use Rattle.promises.specs.Verdicts.{Exact}
use Rattle.stepfile.specs.Files.{table_in, readings_of}
use Rattle.stepfile.specs.Refusals.{bits16, table_behind, file_refusals, place, RuleFor}
use Rattle.verdict.specs.declared.Verdict.{Verdict}

-- 5 to 13: of the record at an index, by its code, its middle byte and its amount, in the state before it
abbrev pub refusals_at : List ℕ → ℕ → State → List Condition
refusals_at f index s =
    let at = place f index in
    record_refusals (table_in f) s (get_or f at 0) (get_or f (at + 1) 0) (bits16 f (at + 2))

-- how far over it is there
abbrev pub HowFarAt : List ℕ → ℕ → State → ℕ → ℕ → Type 0
HowFarAt f index s number excess =
    let at = place f index in
    HowFar (table_in f) s (get_or f at 0) (bits16 f (at + 2)) number excess

-- 1 to 4: the file is refused, by the first number whose condition holds. Else none of them holds, and its records are accepted up to
-- exactly the first that is no step or that the rules forbid, by the first number whose condition holds there, and so far over. Nothing
-- below 9 is over.
pub record JudgeAnswers (f : List ℕ) (v : Verdict) : Type 0 where
  pub unread : (1 ≤ v.number) × (v.number ≤ 4) → FirstOf (file_refusals f) v.number × (v.index ≡ 0) × (v.state ≡ start)
  pub read :
      (v.number ≡ 0) ⊎ (5 ≤ v.number)
      → FirstOf (file_refusals f) 0
      × Exact (table_in f) start (readings_of f) (record { count = v.index; number = v.number; excess = v.excess; state = v.state })
  pub refused : 5 ≤ v.number → FirstOf (refusals_at f v.index v.state) v.number
  pub how_far : 5 ≤ v.number → HowFarAt f v.index v.state v.number v.excess
  pub none_over : v.number < 9 → v.excess ≡ 0
  pub numbers : v.number ≤ 13
  pub rule_for : RuleFor (table_behind f) v.number v.rule
