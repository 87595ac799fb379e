-- `write` meets its contract: the table that is given, or the new default, written.
-- Assumes nothing.
use mathlib.Core.Path.{ap, ◌∙◌}
use lib.ListN.{length}
use Rattle.stepfile.specs.Writing.{written_of, buffer_after}
use Rattle.stepfile.proofs.WritingLaws.{wish_met}
use Rattle.stepfile.proofs.write.write.Goals as goal

pub returns : goal.returns
returns c =
    let a = c.args in
    let table = wish_met a.table c.unwrap_or_else.ensures in
    let e = c.write_with.ensures in record {
      value = e.value ∙ ap (λ t. written_of t a.codes.now a.amounts.now (length a.out.now)) table;
      out_after = e.out_after ∙ ap (λ t. buffer_after t a.codes.now a.amounts.now a.out.now) table;
    }
