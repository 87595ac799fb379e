-- `entries_at` meets its contract: each entry is what is read at its place.
-- Assumes nothing.
use Rattle.std.proofs.Common.{rules, ◌∙◌}
use Rattle.numbers.specs.Bytes.{u16_at}
use Rattle.vectors.proofs.Filling.{made, numbers_of_16}
use Rattle.vectors.proofs.fields.entries_at.Goals as goal

pub returns : goal.returns
returns g c =
    let a = c.args in
    made (u16_at a.bytes.now) 2 a.at g.row.N c.from_fn.result (λ i y q called. (search rules, search rules)) c.from_fn.ensures.items
    ∙ numbers_of_16 a.bytes.now a.at g.row.N
