-- `Laying::has_room` meets its contract: room for an entry a record, or by the entries laid where there is none.
-- Assumes nothing.
use Rattle.std.proofs.Common.{◌+◌, ◌*◌, length, sym, ap, ◌∙◌, arith, le-leb}
use mir.Val.{bool_byte}
use Rattle.shiftlist.specs.Walks.{coded_all, laid_by}
use Rattle.shiftlist.proofs.LayLaws.{laid_at_most, as_many, one_if_open}
use Rattle.shiftlist.proofs.lay.Laying.has_room.Goals as goal

pub returns-then-self-open : goal.returns-then-self-open
returns-then-self-open c =
    let s = c.args.self in
    let cs = coded_all s.records.now in
    let o = c.from-open.ensures ∙ ap bool_byte c.is_unfinished.ensures ∙ one_if_open s.walk.phase in
    sym (le-leb (s.from + 16 * length (laid_by s.walk s.index cs)) c.args.len
    (omega (arith, o, laid_at_most s.walk s.index cs, as_many s.records.now, c.if-self-open.true)))
