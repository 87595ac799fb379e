-- Laws on laying entries into a list: when nothing is laid, the header, and what a size that is 0 or not tells.
-- Assumes nothing.
use Rattle.std.proofs.Common.{◌≡◌, ℕ, zero, suc, ◌+◌, ◌*◌, ◌-◌, ◌/◌, ◌<◌, ◌≤◌, Bool, true, false, cond, ◌&&◌, ◌⊎◌, leb, List, [], length, Some, None, sym, refl, ap, ◌∙◌, ⊎_elim, arith, le-leb, leb-false, leb-true}
use lib.Seq.{sets}
use borrow.Author.Tests.{lt-leb}
use Rattle.checks.proofs.Tests.{case}
use Rattle.numbers.specs.Bytes.{bytes_of, halves}
use Rattle.numbers.proofs.StoreLaws.{next32}
use Rattle.shiftlist.specs.declared.walk.Walk.{Walk}
use Rattle.shiftlist.specs.Lists.{entries_of, header_of}
use Rattle.std.specs.Simd.{first_chunks}
use Rattle.shiftlist.specs.Walks.{coded_in, coded_all, laid_by, unless_0, size_with, layable, laid_size, laid_in}
use Rattle.shiftlist.proofs.LayLaws.{same_coded}

never_second : (a b : Bool) → b ≡ false → a && b ≡ false
never_second true b e = e
never_second false b e = refl

module _ (l : List ℕ) (from : ℕ) (w : Walk) (i : ℕ) (bytes : List ℕ) where
  abbrev pub size : ℕ
  size = size_with l from w i bytes

  abbrev Leaves : ℕ → List ℕ → Type 0
  Leaves n b = (n ≡ laid_size l from w i bytes) × (b ≡ laid_in l from w i bytes)

  abbrev pub laid : List ℕ
  laid = sets (sets l 0 (bytes_of (header_of ((size - 8) / 16)))) from (bytes_of (entries_of (laid_by w i (coded_in bytes))))

  nothing : layable l from w i bytes ≡ false → Leaves 0 l
  nothing e = (ap (λ b. cond b size 0) (sym e), ap (λ b. cond b laid l) (sym e))

  pub too_many : 16372 < i + length bytes / 4 → Leaves 0 l
  too_many h = nothing (rw (lt-leb (i + length bytes / 4) 16372 h))

  abbrev place : Bool
  place = leb 8 from && (leb from 261960 && leb size (length l))

  second : place ≡ false → Leaves 0 l
  second e = nothing (never_second (leb (i + length bytes / 4) 16372) place e)

  third : leb from 261960 && leb size (length l) ≡ false → Leaves 0 l
  third e = second (never_second (leb 8 from) (leb from 261960 && leb size (length l)) e)

  pub no_room : length l < size → Leaves 0 l
  no_room h = third (never_second (leb from 261960) (leb size (length l)) (lt-leb size (length l) h))

  pub no_place : (from < 8) ⊎ ((8 ≤ from) × (261960 < from)) → Leaves 0 l
  no_place = ⊎_elim (λ h. second (rw (lt-leb 8 from h))) (λ h. third (rw (lt-leb from 261960 h.1)))

  pub all_laid : i + length bytes / 4 ≤ 16372 → (8 ≤ from) × (from ≤ 261960) → size ≤ length l → Leaves size laid
  all_laid a b c =
      let e : layable l from w i bytes ≡ true =
      rw (le-leb (i + length bytes / 4) 16372 a, le-leb 8 from b.0, le-leb from 261960 b.1, le-leb size (length l) c)
      in
      (ap (λ q. cond q size 0) (sym e), ap (λ q. cond q laid l) (sym e))

-- of few enough records and at a place that a list has, by the size that is answered
module _ (l : List ℕ) (from : ℕ) (w : Walk) (i : ℕ) (bytes : List ℕ) (a : i + length bytes / 4 ≤ 16372) (b : (8 ≤ from) × (from ≤ 261960)) where
  abbrev all : ℕ
  all = size_with l from w i bytes

  pub none_laid : (r : ℕ) → r ≡ laid_size l from w i bytes → r ≡ 0 → (length l < all) × (l ≡ laid_in l from w i bytes)
  none_laid r e z =
      case (leb all (length l))
      (λ h. let k = all_laid l from w i bytes a b (leb-true all (length l) h) in absurd (omega (arith, e, z, k.0, b.0)))
      (λ h. (leb-false all (length l) h, (no_room l from w i bytes (leb-false all (length l) h)).1))

  pub some_laid :
      (r : ℕ) → r ≡ laid_size l from w i bytes → ¬ (r ≡ 0)
      → (all ≤ length l) × (r ≡ all) × (laid_in l from w i bytes ≡ laid l from w i bytes)
  some_laid r e n =
      case (leb all (length l))
      (λ h. let k = all_laid l from w i bytes a b (leb-true all (length l) h) in (leb-true all (length l) h, e ∙ sym k.0, sym k.1))
      (λ h. absurd (n (e ∙ sym (no_room l from w i bytes (leb-false all (length l) h)).0)))

-- the size by records that stand apart
pub same_size :
    (l : List ℕ) (from : ℕ) (w : Walk) (i : ℕ) (bytes : List ℕ) (rs : List (List ℕ)) → rs ≡ first_chunks 4 (length bytes / 4) bytes
    → from + 16 * length (laid_by w i (coded_all rs)) ≡ size_with l from w i bytes
same_size l from w i bytes rs e = ap (λ cs. from + 16 * length (laid_by w i cs)) (same_coded bytes rs e)

-- what a size answers
pub some_size : (r n : ℕ) → r ≡ n → ¬ (r ≡ 0) → Some r ≡ unless_0 n
some_size zero n e m = absurd (m refl)
some_size (suc r) n e m = ap unless_0 e

pub size_none : (n : ℕ) → None ≡ unless_0 n → n ≡ 0
size_none zero e = refl
size_none (suc n) e = cc

pub size_some : (r n : ℕ) → Some r ≡ unless_0 n → (r ≡ n) × ¬ (r ≡ 0)
size_some r zero e = cc
size_some zero (suc n) e = cc
size_some (suc r) (suc n) e = (cc, λ z. omega arith)

-- the header is stored as two numbers
pub header_stored : (l : List ℕ) (n : ℕ) → sets (sets l 0 (bytes_of (halves n []))) 4 (bytes_of (halves 8 [])) ≡ sets l 0 (bytes_of (header_of n))
header_stored l n = sym (next32 l 0 4 n (halves 8 []) refl)
