-- `Step::of` meets its contract: code and middle byte are taken out of the number that they make.
-- Assumes nothing.
use mathlib.Core.Path.{◌≡◌, ap, ◌∙◌}
use Prim.Native.Nat.{◌+◌, ◌*◌, ◌/◌, ◌%◌}
use native.Mathlib.Omega.{arith}
use Rattle.shift.specs.Answers.{reading}
use Rattle.shift.proofs.Step.of.Goals as goal

pub returns : goal.returns
returns c =
    let a = c.args in
    let head = a.code + 256 * a.middle in
    let code : head % 256 ≡ a.code = omega arith in
    let middle : head / 256 ≡ a.middle = omega arith in
    c.of_head.ensures
    ∙ ap (λ k. reading k (head / 256) a.amount) code
    ∙ ap (λ m. reading a.code m a.amount) middle
