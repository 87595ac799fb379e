-- `is_broken` meets its contract: rules 1 and 16 by their own tests, the others by their sides.
-- Assumes nothing.
use mathlib.Core.Path.{◌≡◌, sym, ◌∙◌}
use mathlib.Core.Bool.{Bool, true, false}
use Prim.Native.Nat.{ℕ}
use native.Mathlib.Omega.{arith}
use Rattle.limits.specs.declared.Table.{Table}
use Rattle.admission.specs.Broken.{is_broken, left_side, right_side, is_strict}
use Rattle.admission.proofs.BrokenLaws.{breaks, by_sides_lem}
use Rattle.admission.proofs.is_broken.Goals as goal

compared :
    (t : Table) (n left right : ℕ) (strict : Bool) → (n ≡ 1 → ⊥) → (n ≡ 16 → ⊥)
    → left ≡ left_side t n → right ≡ right_side t n → strict ≡ is_strict n
    → breaks strict left right ≡ is_broken t n
compared t n left right strict a b l r s = rw (l, r, s) (sym (by_sides_lem t n a b))

pub returns-then-is_strict : goal.returns-then-is_strict
returns-then-is_strict c =
    let a = c.args in
    let left = c.left_side-left in
    let right = c.right_side-right in
    compared a.table a.rule left.result right.result true
    (omega arith)
    (omega arith)
    left.ensures
    right.ensures
    (sym c.if-is_strict.true ∙ c.is_strict.ensures)

pub returns-else-is_strict : goal.returns-else-is_strict
returns-else-is_strict c =
    let a = c.args in
    let left = c.left_side-left in
    let right = c.right_side-right in
    compared a.table a.rule left.result right.result false
    (omega arith)
    (omega arith)
    left.ensures
    right.ensures
    (sym c.if-is_strict.false ∙ c.is_strict.ensures)
