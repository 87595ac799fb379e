-- `append_entry` meets its contract: a name, and the rest of its line behind it.
-- Assumes nothing.
use mathlib.Core.Path.{◌≡◌, ap, ◌∙◌}
use mathlib.Core.List.{List, [], ◌∷◌, ◌++◌, append_assoc}
use Prim.Native.Nat.{ℕ, ◌≤◌}
use native.Mathlib.Omega.{arith}
use lib.ListN.{length}
use Rattle.std.proofs.Common.{rules}
use Rattle.std.specs.Fmt.{decimal}
use Rattle.line.specs.Decimals.{decimal_of}
use Rattle.line.proofs.Decimal.{printed}
use Rattle.tablewords.specs.Names.{name}
use Rattle.tablewords.proofs.NameLaws.{name_fits}
use Rattle.tabletext.proofs.lay.append_entry.Goals as goal

joined : (before word digits : List ℕ)
    → (((before ++ word) ++ 32 ∷ []) ++ digits) ++ 10 ∷ [] ≡ before ++ (word ++ ((32 ∷ digits) ++ 10 ∷ []))
joined before word digits =
    append_assoc ((before ++ word) ++ 32 ∷ []) digits (10 ∷ [])
    ∙ append_assoc (before ++ word) (32 ∷ []) (digits ++ 10 ∷ [])
    ∙ append_assoc before word (32 ∷ (digits ++ 10 ∷ []))

pub unwrap-requires-2 : goal.unwrap-requires-2
unwrap-requires-2 c =
    let long : length c.name.result.now ≤ 21 = omega (arith, ap length c.name.ensures, name_fits c.args.entry) in
    grind (arith, long)

pub unwrap-requires-3 : goal.unwrap-requires-3
unwrap-requires-3 c =
    let long : length c.name.result.now ≤ 21 = omega (arith, ap length c.name.ensures, name_fits c.args.entry) in
    grind (arith, long)

pub unwrap-requires-4 : goal.unwrap-requires-4
unwrap-requires-4 c =
    let long : length c.name.result.now ≤ 21 = omega (arith, ap length c.name.ensures, name_fits c.args.entry) in
    grind (arith, long)

pub returns-clause-upper_bound : goal.returns-clause-upper_bound
returns-clause-upper_bound c =
    let long : length c.name.result.now ≤ 21 = omega (arith, ap length c.name.ensures, name_fits c.args.entry) in
    grind (arith, long)

pub returns-clause-text_after : goal.returns-clause-text_after
returns-clause-text_after c =
    let digits : decimal c.args.value ≡ decimal_of c.args.value = printed c.args.value (omega (arith, c.ranges.value)) in
    let one : c.try_extend_from_slice.new.self.items ≡ c.args.text.now.items ++ name c.args.entry = search rules in
    let two : c.try_extend_from_slice-2.new.self.items ≡ c.try_extend_from_slice.new.self.items ++ 32 ∷ [] = search rules in
    let three : c.try_extend_from_slice-3.new.self.items ≡ c.try_extend_from_slice-2.new.self.items ++ decimal c.args.value = search rules in
    let four : c.try_extend_from_slice-4.new.self.items ≡ c.try_extend_from_slice-3.new.self.items ++ 10 ∷ [] = search rules in
    rw (four, three, digits, two, one) (joined c.args.text.now.items (name c.args.entry) (decimal_of c.args.value))
