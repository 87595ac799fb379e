-- `read_amounts` meets its contract: each amount is what is read at its place.
-- Assumes nothing.
use Rattle.std.proofs.Common.{arith, ◌≡◌, ◌+◌, ◌*◌, ◌<◌, ℕ, List, length, get_or, set, refl, sym, ap, ◌∙◌}
use Rattle.std.proofs.lemmas.List.{length-set}
use Rattle.std.proofs.lemmas.Grind.{common_steps}
use Rattle.numbers.specs.Bytes.{u32_at}
use Rattle.vectors.proofs.Filling.{filled}
use Rattle.vectors.proofs.fields.read_amounts.Goals as goal

-- one place more
grown : (l : List ℕ) (i k x y : ℕ) → i < length l → k < i + 1 → (k ≡ i → x ≡ y) → (k < i → get_or l k 0 ≡ y) → get_or (set l i x) k 0 ≡ y
grown l i k x y inside h same before = grind (arith, common_steps)

pub loop-i-init : goal.loop-i-init
loop-i-init c = (refl, λ k h. absurd (omega arith))

pub loop-i-preserved : goal.loop-i-preserved
loop-i-preserved c =
    let a = c.args in
    let l = c.loop-i in
    let read : ℕ → ℕ = λ k. u32_at a.bytes.now (a.at + 4 * k) in
    let inside : l.i < length l.amounts = rw l.invariant.0 c.loop-i-test.true in (
      length-set l.amounts l.i c.u32_at.result ∙ l.invariant.0,
      λ k h. grown l.amounts l.i k c.u32_at.result (read k) inside h (λ e. c.u32_at.ensures ∙ ap read (sym e)) (l.invariant.1 k),
    )

pub returns : goal.returns
returns c =
    let a = c.args in
    let l = c.loop-i in
    filled (u32_at a.bytes.now) 4 a.at (length a.amounts.now) l.amounts l.invariant.0 (λ k h. l.invariant.1 k (omega arith))
