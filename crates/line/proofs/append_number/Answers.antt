-- `append_number` meets its contract: the digits that itoa leaves are `decimal_of`.
-- Assumes nothing.
use mathlib.Core.Path.{◌≡◌}
use mathlib.Core.List.{[], ◌∷◌, ◌++◌}
use native.Mathlib.Omega.{arith}
use lib.Seq.{append_snoc}
use Rattle.std.proofs.Common.{rules}
use Rattle.std.specs.Fmt.{decimal}
use Rattle.line.specs.Decimals.{decimal_of}
use Rattle.line.proofs.Decimal.{printed}
use Rattle.line.proofs.append_number.Goals as goal

pub returns-clause-text_after : goal.returns-clause-text_after
returns-clause-text_after c =
    let space = c.try_extend_from_slice.new.self.items in
    let one : space ≡ c.args.text.now.items ++ 32 ∷ [] = search rules in
    let two : c.try_extend_from_slice-2.new.self.items ≡ space ++ decimal c.args.n = search rules in
    rw (two, one, printed c.args.n (omega (arith, c.ranges.n))) (append_snoc c.args.text.now.items 32 (decimal_of c.args.n))
