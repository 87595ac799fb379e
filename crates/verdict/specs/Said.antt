-- Document 01, "Numbers for what is refused": what the line says of a verdict, and the line for a file's bytes.
-- Assumes nothing.
use Rattle.std.specs.Prelude.{cond, List, ℕ, leb, eqb}
use Rattle.line.specs.declared.Word.{Word}
use Rattle.line.specs.declared.Word.TheVariants.{Accepted, Refused, Unread}
use Rattle.line.specs.declared.Line.{Line}
use Rattle.line.specs.Lines.{line_of}
use Rattle.verdict.specs.declared.Verdict.{Verdict}
use Rattle.verdict.specs.Verdicts.{verdict_of}

-- accepted, unread for 1 to 4, refused
abbrev pub word_for : ℕ → Word
word_for number = cond (eqb number 0) Accepted (cond (leb number 4) Unread Refused)

-- the word, then records accepted, reason, clock, phase, box and how far over
abbrev pub said : Verdict → Line
said v = record {
  word = word_for v.number;
  count = v.index;
  number = v.number;
  clock = v.state.clock;
  phase = v.state.phase;
  gear_box = v.state.gear_box;
  excess = v.excess;
}

abbrev pub line_for : List ℕ → List ℕ
line_for file = line_of (said (verdict_of file))
