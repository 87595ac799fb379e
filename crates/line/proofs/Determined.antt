-- Any two outcomes that a public contract of this crate allows are equal: the result, and the lent buffer at exit.
-- Assumes nothing.
use mathlib.Core.Path.{◌≡◌, refl, sym, ap, ◌∙◌}
use Prim.Native.Nat.{ℕ}
use native.Mathlib.Omega.{arith}
use Rattle.std.specs.Prelude.{Result, Ok, Err}
use Rattle.checks.specs.Determined.{Determined, DeterminedLent}
use Rattle.line.specs.declared.NoRoom.{NoRoom}
use Rattle.line.specs.Laying.{Laid, laid_in}
use Rattle.line.proofs.lay.Reads as lay_reads
use Rattle.line.proofs.place.Reads as place_reads
use Rattle.line.proofs.NoRoom.number.Reads as number_reads

-- a number and a length are those of one answer
pub same_answer : (x y : Result ℕ NoRoom) → laid_in x ≡ laid_in y → x ≡ y
same_answer (Ok m) (Ok n) e = ap (λ (l : Laid). Ok l.length) e
same_answer (Ok m) (Err n) e = absurd (omega (arith, ap (λ (l : Laid). l.number) e))
same_answer (Err m) (Ok n) e = absurd (omega (arith, ap (λ (l : Laid). l.number) e))
same_answer (Err m) (Err n) e = refl

pub lay : DeterminedLent (λ κs at. at.1.0.now) lay_reads.Post
lay κs a x y at at' p q = (same_answer x y (p.0 ∙ sym q.0), p.1 ∙ sym q.1)

pub place : DeterminedLent (λ κs at. at.1.0.now) place_reads.Post
place κs a x y at at' p q = (same_answer x y (p.0 ∙ sym q.0), p.1 ∙ sym q.1)

pub number : Determined number_reads.Post
number κs a x y at at' p q = p ∙ sym q
