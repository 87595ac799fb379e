-- `put_entry` meets its contract: its numbers in a part of their own, or at the place.
-- Assumes nothing.
use Rattle.std.proofs.Common.{◌+◌, ◌-◌, refl, ap, ◌∙◌}
use lib.Seq.{sets}
use borrow.Rule.Slice.PartMut.{mid_of, put_mid}
use Rattle.numbers.specs.Bytes.{bytes_of}
use Rattle.shiftlist.specs.declared.Shift.{Shift}
use Rattle.shiftlist.specs.Lists.{numbers_of}
use Rattle.shiftlist.specs.Walks.{in_hand}
use Rattle.shiftlist.proofs.StoreLaws.{part_stored}
use Rattle.shiftlist.proofs.lay.put_entry.Goals as goal

pub returns-else-list-at : goal.returns-else-list-at
returns-else-list-at c =
    let a = c.args in
    let l = a.list.now in
    ap (put_mid a.at (a.at + 16 - a.at) l)
    (c.put_numbers-else-list-at.ensures
    ∙ ap (λ (e : Shift). sets (mid_of a.at (a.at + 16 - a.at) l) 0 (bytes_of (numbers_of e))) c.entry-else-list-at.ensures)
    ∙ part_stored l (bytes_of (numbers_of (in_hand a.walk))) a.at (a.at + 16) refl c.if-list-at.false
