-- `spelled` meets its contract: a line more for each entry that the table has.
-- Assumes nothing.
use mathlib.Core.Path.{◌≡◌, refl, ap, ◌∙◌}
use native.Mathlib.Omega.{arith}
use lib.ListN.{length, take, get_or}
use Rattle.stepfile.specs.Writing.{entries_for}
use Rattle.stepfile.proofs.EntryLaws.{entries_taken, no_more_than_22}
use Rattle.tabletext.specs.Printed.{lines_from, text_of}
use Rattle.tabletext.proofs.PrintLaws.{one_line, no_more_lines}
use Rattle.tabletext.proofs.lay.spelled.Goals as goal

-- the entries that a table has
taken : (c : goal.After-entries-1) → take c.entries_for.result c.entries-entries.result ≡ entries_for c.args.table
taken c = rw (c.entries_for.ensures, c.entries-entries.ensures) (entries_taken c.args.table)

pub loop-entry-init : goal.loop-entry-init
loop-entry-init c = record {
  few = omega (arith, ap length (taken c), no_more_than_22 c.args.table);
  fits = rw c.new-text.ensures (omega arith);
  text = rw c.new-text.ensures refl;
}

pub loop-entry-preserved : goal.loop-entry-preserved
loop-entry-preserved c =
    let l = c.loop-entry in
    let vs = take c.entries_for.result c.entries-entries.result in
    record {
      few = l.invariant.few;
      fits = omega (arith, l.invariant.fits, c.append_entry.ensures.upper_bound);
      text =
          one_line vs (lines_from 0 vs) l.text.items l.entry l.invariant.text _ (get_or vs l.entry 0) c.loop-entry-test.true refl
          c.append_entry.ensures.text_after;
    }

pub returns : goal.returns
unfolding text_of
returns c =
    let l = c.loop-entry in
    let vs = take c.entries_for.result c.entries-entries.result in
    no_more_lines vs (lines_from 0 vs) l.text.items l.entry l.invariant.text (omega (arith, l.auto, c.loop-entry-test.false))
    ∙ ap (lines_from 0) (rw (c.entries_for.ensures, c.entries-entries.ensures) (entries_taken c.args.table))
