-- `entries_at` meets its contract. The loop's invariant: with what is still to be stored, the entries are those of the file.
-- Assumes nothing.
use mathlib.Core.Path.{◌∙◌}
use native.Mathlib.Omega.{arith}
use Rattle.stepfile.proofs.ByteLaws.{blank, length-blank, stored, all_stored, in_front}
use Rattle.stepfile.proofs.entries_at.Goals as goal

pub loop-i-preserved : goal.loop-i-preserved
loop-i-preserved c =
    let l = c.loop-i in
    let a = c.args in
    let long = length-blank a.count c.requires in
    l.invariant ∙ stored l.entry-items a.file.now a.count l.i (omega arith) ∙ rw c.u16_at.ensures

pub returns : goal.returns
returns c =
    let l = c.loop-i in
    let a = c.args in
    let long = length-blank a.count c.requires in
    let mine = l.invariant ∙ all_stored l.entry-items a.file.now a.count l.i (omega arith) in
    in_front blank l.entry-items a.file.now a.count c.requires mine
