-- `put_file` meets its contract: header, table and records, one behind the other.
-- Assumes nothing.
use Prim.Native.Nat.{◌+◌, ◌*◌}
use mathlib.Core.Path.{ap, ◌∙◌}
use lib.ListN.{take}
use lib.Seq.{sets}
use Rattle.limits.specs.Limits.{entries}
use Rattle.numbers.specs.Bytes.{bytes_of}
use Rattle.stepfile.specs.Writing.{records_of}
use Rattle.stepfile.proofs.StoreLaws.{file_stored}
use Rattle.stepfile.proofs.write.put_file.Goals as goal

pub returns : goal.returns
returns c =
    let a = c.args in
    let k = c.entries_for-entries in
    let r = bytes_of (records_of a.codes.now a.amounts.now) in
    let es = bytes_of (take k.result (entries a.table)) in
    c.put_records.ensures
    ∙ ap (λ o. sets o (12 + 2 * k.result) r) c.put_table.ensures
    ∙ ap (λ o. sets (sets o 12 es) (12 + 2 * k.result) r) c.put_header.ensures
    ∙ file_stored a.out.now a.table a.codes.now a.amounts.now k.result k.ensures
