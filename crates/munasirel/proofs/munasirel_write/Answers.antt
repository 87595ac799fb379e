-- `munasirel_write` meets its contract: what the writer answers to the wish, in the number and the three lent ones.
-- Assumes nothing.
use mathlib.Core.Path.{◌≡◌, sym, ap, ◌∙◌}
use mathlib.Core.List.{List}
use Prim.Native.Nat.{ℕ}
use lib.ListN.{length}
use Rattle.std.proofs.Common.{Option}
use Rattle.limits.specs.declared.Table.{Table}
use Rattle.stepfile.specs.Writing.{Written, wished, written_of, buffer_after}
use Rattle.stepfile.proofs.WriteLaws.{no_length}
use Rattle.munasirel.specs.Calls.{wish_of, written_for, out_after}
use Rattle.munasirel.proofs.munasirel_write.Goals as goal

-- of what the writer answers to a wish, where it is the one of these arguments
module _ (k : ℕ) (t : Table) (codes amounts out : List ℕ) (w : Option Table) (wish : w ≡ wish_of k t) where
  answer : (r : Written) → r ≡ written_of (wished w) codes amounts (length out) → r ≡ written_for k t codes amounts out
  answer r e = e ∙ ap (λ (v : Option Table). written_of (wished v) codes amounts (length out)) wish

  buffer : (b : List ℕ) → b ≡ buffer_after (wished w) codes amounts out → b ≡ out_after k t codes amounts out
  buffer b e = e ∙ ap (λ (v : Option Table). buffer_after (wished v) codes amounts out) wish

pub returns-in-Ok : goal.returns-in-Ok
returns-in-Ok c =
    let a = c.args in
    let wish = c.wish_of.ensures in
    let w = answer a.with_table a.table a.codes.now a.amounts.now a.out.now _ wish _ c.in-Ok.ensures.value in (
      ap (λ (r : Written). r.number) w,
      ap (λ (r : Written). r.length) w,
      ap (λ (r : Written). r.index) w,
      ap (λ (r : Written). r.rule) w,
      buffer a.with_table a.table a.codes.now a.amounts.now a.out.now _ wish _ c.write-written.ensures.out_after,
    )

pub returns-in-Err : goal.returns-in-Err
returns-in-Err c =
    let a = c.args in
    let wish = c.wish_of.ensures in
    let w = answer a.with_table a.table a.codes.now a.amounts.now a.out.now _ wish _ c.in-Err.ensures.value in (
      c.number.ensures ∙ ap (λ (r : Written). r.number) w,
      sym (sym (ap (λ (r : Written). r.length) w) ∙ no_length c.in-Err.unwritten),
      c.index.ensures ∙ ap (λ (r : Written). r.index) w,
      c.rule.ensures ∙ ap (λ (r : Written). r.rule) w,
      buffer a.with_table a.table a.codes.now a.amounts.now a.out.now _ wish _ c.write-written.ensures.out_after,
    )
