-- Document 01: judging a file answers accepted with the end state and n, or refused with the record index, the number and the state
-- before it, and by document 02 how far over it is; refusals 1 to 4 with index 0, the start state, and the rule with 4.
-- Assumes nothing.
use Rattle.std.specs.Prelude.{ℕ, zero, suc, List}
use Rattle.shift.specs.States.{start}
use Rattle.shift.specs.Runs.{Outcome, run}
use Rattle.stepfile.specs.Files.{Refusal, table_in, refusal_of, readings_of}
use Rattle.verdict.specs.declared.Verdict.{Verdict}

-- of the records of a file that is read
abbrev pub of_run : Outcome → Verdict
of_run o = record { number = o.number; rule = 0; index = o.count; excess = o.excess; state = o.state }

-- of a file that is not
abbrev pub unread : Refusal → Verdict
unread r = record { number = r.number; rule = r.rule; index = 0; excess = 0; state = start }

abbrev pub reading : ℕ → Refusal → Outcome → Verdict
reading zero r o = of_run o
reading (suc k) r o = unread r

-- of a file's bytes
abbrev pub verdict_of : List ℕ → Verdict
verdict_of f = reading (refusal_of f).number (refusal_of f) (run (table_in f) start (readings_of f))
