-- The entries of a table that is made of twenty-two.
-- Assumes nothing.
use mathlib.Core.Path.{◌≡◌, refl, sym, ◌∙◌}
use mathlib.Core.List.{List}
use Prim.Native.Nat.{ℕ, ◌≤◌, ◌<◌}
use native.Mathlib.Omega.{arith}
use lib.Dec.{ltb}
use lib.ListN.{length, get_or, get_or-eq_default}
use borrow.Author.Tests.{ltb-true, ltb-false}
use Rattle.checks.proofs.Tests.{case}
use Rattle.checks.proofs.Ranges.{below}
use Rattle.limits.specs.Limits.{entries, entry, table_of}

pub of_twenty_two : (es : List ℕ) (n : ℕ) → n < 22 → get_or es n 0 ≡ entry (table_of es) n
of_twenty_two es =
    below
    (λ k. get_or es k 0 ≡ entry (table_of es) k)
    22
    ((((((((((((((((((((((tt, refl), refl), refl), refl), refl), refl), refl), refl), refl), refl), refl), refl), refl), refl), refl), refl), refl), refl), refl), refl), refl), refl)

-- and past them there is none
pub at_any_place : (es : List ℕ) (n : ℕ) → length es ≡ 22 → get_or es n 0 ≡ entry (table_of es) n
at_any_place es n e =
    case (ltb n 22)
    (λ t. of_twenty_two es n (ltb-true n 22 t))
    (λ f.
    let past : 22 ≤ n = ltb-false n 22 f in
    get_or-eq_default es 0 {n = n} (omega arith) ∙ sym (get_or-eq_default (entries (table_of es)) 0 {n = n} past))
