-- `munasirel_m9_advance` meets its contract: the amount is that of its two bytes.
-- Assumes nothing.
use mathlib.Core.Path.{◌≡◌, ap, ◌∙◌}
use Prim.Native.Nat.{◌+◌, ◌*◌}
use native.Mathlib.Omega.{arith}
use Rattle.manual.specs.Answers.{moved_on}
use Rattle.munasirel_m9.proofs.munasirel_m9_advance.Goals as goal

pub returns : goal.returns
returns c =
    let a = c.args in
    let amount : c.from-amount.result ≡ a.low + 256 * a.high = omega (arith, c.from-amount.ensures, c.from_le_bytes.ensures) in
    c.step.ensures ∙ ap (moved_on a.table a.variables a.code a.middle) amount
