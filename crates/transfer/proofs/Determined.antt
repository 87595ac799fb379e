-- Any two outcomes that a public contract of this crate allows are equal, in the answer and in the buffer.
-- Assumes nothing.
use mathlib.Core.Path.{◌≡◌, refl, sym, ap, ◌∙◌}
use native.Mathlib.Omega.{arith}
use Prim.Native.Nat.{ℕ}
use Rattle.std.specs.Prelude.{Result, Ok, Err}
use Rattle.checks.specs.Determined.{Determined, DeterminedLent}
use Rattle.transfer.specs.declared.Unjoined.{Unjoined}
use Rattle.transfer.specs.declared.Unjoined.TheVariants.{Gap, NoRoom, Differs}
use Rattle.transfer.specs.Join.{Joined, number_of, joined_in}
use Rattle.transfer.proofs.join.Reads as join_reads
use Rattle.transfer.proofs.Unjoined.number.Reads as number_reads

-- a number is that of one refusal, and with a count that of one answer
same_refusal : (x y : Unjoined) → number_of x ≡ number_of y → x ≡ y
same_refusal Gap Gap e = refl
same_refusal Gap NoRoom e = absurd (omega (arith, e))
same_refusal Gap Differs e = absurd (omega (arith, e))
same_refusal NoRoom Gap e = absurd (omega (arith, e))
same_refusal NoRoom NoRoom e = refl
same_refusal NoRoom Differs e = absurd (omega (arith, e))
same_refusal Differs Gap e = absurd (omega (arith, e))
same_refusal Differs NoRoom e = absurd (omega (arith, e))
same_refusal Differs Differs e = refl

refused : (e : Unjoined) → ◌≡◌ {A = ℕ} 0 (number_of e) → ⊥
refused Gap z = omega (arith, z)
refused NoRoom z = omega (arith, z)
refused Differs z = omega (arith, z)

same_answer : (held : ℕ) (x y : Result ℕ Unjoined) → joined_in held x ≡ joined_in held y → x ≡ y
same_answer held (Ok m) (Ok n) e = ap (λ (j : Joined). Ok j.held) e
same_answer held (Ok m) (Err y) e = absurd (refused y (ap (λ (j : Joined). j.number) e))
same_answer held (Err x) (Ok n) e = absurd (refused x (sym (ap (λ (j : Joined). j.number) e)))
same_answer held (Err x) (Err y) e = ap (λ (u : Unjoined). Err u) (same_refusal x y (ap (λ (j : Joined). j.number) e))

pub join : DeterminedLent (λ κs at. at.0.now) join_reads.Post
join κs a x y at at' p q = (same_answer a.1.0 x y (p.0 ∙ sym q.0), p.1 ∙ sym q.1)

pub number : Determined number_reads.Post
number κs a x y at at' p q = p ∙ sym q
