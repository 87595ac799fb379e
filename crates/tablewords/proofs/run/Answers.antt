-- `run` meets its contract: the test that is taken is that of the class.
-- Assumes nothing.
use Rattle.std.proofs.Common.{rules, tests}
use Rattle.tablewords.specs.declared.Class.TheVariants.{Blank, Letter, Inline}
use Rattle.tablewords.proofs.WordLaws.{counted}
use Rattle.tablewords.proofs.run.Goals as goal

pub returns-in-Blank : goal.returns-in-Blank
returns-in-Blank c = let r = c.leading in rw c.in-Blank.is (counted _ Blank (λ b r h. h) c.args.text.now r.result r.ensures)

pub returns-in-Letter : goal.returns-in-Letter
returns-in-Letter c = let r = c.leading-in-Letter in rw c.in-Letter.is (counted _ Letter (λ b r h. h) c.args.text.now r.result r.ensures)

pub returns-in-Inline : goal.returns-in-Inline
returns-in-Inline c =
    let r = c.leading-in-Inline in
    rw c.in-Inline.is (counted _ Inline (λ b r h. search (rules, tests)) c.args.text.now r.result r.ensures)
