-- A line is refused with 15 exactly where it doesn't fit, in the words of specs/Refusals.antt, and a refused one changes no byte.
-- Assumes nothing.
use mathlib.Core.Path.{refl}
use mathlib.Core.Logic.{inl, inr}
use mathlib.Core.List.{List}
use Prim.Native.Nat.{ℕ}
use native.Mathlib.Omega.{arith}
use lib.Dec.{leb}
use lib.ListN.{length}
use borrow.Author.Tests.{leb-true, leb-false}
use Rattle.checks.proofs.Tests.{case}
use Rattle.line.specs.Lines.{line_of}
use Rattle.line.specs.Laying.{laid_in, laid, after}
use Rattle.line.specs.Refusals.{LineAnswers}
use Rattle.line.proofs.lay.Reads as lay_reads

pub line_answers : (text out : List ℕ) → LineAnswers text out (laid text out).number (laid text out).length (after text out)
line_answers text out =
    case (leb (length text) (length out))
    (λ t.
    let fits = leb-true (length text) (length out) t in
    rw t (record { first = inr (omega arith, refl); numbers = inl refl; unchanged = λ n. absurd (n refl) }))
    (λ f.
    let past = leb-false (length text) (length out) f in
    rw f (record { first = inl (past, refl); numbers = inr (inl refl); unchanged = λ n. (refl, refl) }))

pub lay :
    (κs : _) (a : _) (r : _) (at : _) → lay_reads.Post κs a r at
    → LineAnswers (line_of a.0) a.1.0.now (laid_in r).number (laid_in r).length at.1.0.now
lay κs a r at p = rw (p.0, p.1) (line_answers (line_of a.0) a.1.0.now)
