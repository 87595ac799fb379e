-- Document 01: an input above 65,536 bytes is checked in the same order, and its length is never right. So its first 65,537 bytes have
-- the verdict of the whole.
-- Assumes nothing.
use mathlib.Core.Path.{◌≡◌, refl, sym, ap, ◌∙◌}
use mathlib.Core.Bool.{Bool, true, false, cond, ◌||◌}
use mathlib.Core.Logic.{inl, inr}
use mathlib.Core.List.{List}
use Prim.Native.Nat.{ℕ, ◌+◌, ◌*◌, ◌≤◌, ◌<◌}
use native.Mathlib.Omega.{arith}
use lib.Dec.{leb, eqb}
use lib.ListN.{length, take}
use lib.Seq.{get_or-take, length-take-le}
use borrow.Author.Tests.{le-leb, ne_eqb, leb-true}
use Rattle.checks.specs.Checks.{first}
use Rattle.checks.proofs.Tests.{case, passes}
use Rattle.numbers.specs.Bytes.{u16_at}
use Rattle.stepfile.specs.Files.{Refusal, most_records, headed_by, headed, table_offset, table_entries, record_offset, record_count, refusal_of}
use Rattle.stepfile.proofs.EntryLaws.{Few, few, most_between}
use Rattle.stepfile.proofs.FileLaws.{header_refused}
use Rattle.verdict.specs.Verdicts.{unread, verdict_of}
use Rattle.verdict.proofs.Judging.{unread_file}

-- the header's refusal of a file that is too long: 2 by a field, else 3
abbrev by_field : Bool → Bool → Bool → Bool → ℕ
by_field a b c d = cond a (cond b (cond c (cond d 3 2) 2) 2) 2

abbrev too_long : ℕ → ℕ → ℕ → ℕ → ℕ
too_long offset k from n = by_field (eqb offset 12) (eqb k 0 || (eqb k 18 || eqb k 22)) (eqb from (12 + 2 * k)) (leb n (most_records k))

some_field : (a b c d : Bool) → ¬ (by_field a b c d ≡ 0)
some_field false b c d e = omega arith
some_field true false c d e = omega arith
some_field true true false d e = omega arith
some_field true true true false e = omega arith
some_field true true true true e = omega arith

never_right : (len k n : ℕ) → 65536 < len → Few k → n ≤ most_records k → ¬ (len ≡ 12 + 2 * k + 4 * n)
never_right len k n h (inl z) m e = omega (arith, most_between k)
never_right len k n h (inr (inl z)) m e = omega (arith, most_between k)
never_right len k n h (inr (inr z)) m e = let least : most_records k ≡ 16370 = ap most_records z in omega arith

long_header : (len offset k from n : ℕ) → 65536 < len → first (headed_by len offset k from n) ≡ too_long offset k from n
long_header len offset k from n h =
    rw (le-leb 12 len (omega arith))
    (case (eqb k 0 || (eqb k 18 || eqb k 22))
    (λ a.
    case (leb n (most_records k))
    (λ b.
    let z = few k (passes (eqb k 0 || (eqb k 18 || eqb k 22)) a) in
    rw (a, b, ne_eqb len (12 + 2 * k + 4 * n) (never_right len k n h z (leb-true n (most_records k) b))))
    (λ b. rw (a, b)))
    (λ a. rw a))

module _ (f : List ℕ) (h : 65536 < length f) where
  abbrev g : List ℕ
  g = take 65537 f

  same_u16 : (i : ℕ) → i + 1 < 65537 → u16_at g i ≡ u16_at f i
  same_u16 i l = rw (get_or-take 65537 f i 0 (omega arith), get_or-take 65537 f (i + 1) 0 l)

  same_header : first (headed g) ≡ first (headed f)
  same_header =
      let len : length g ≡ 65537 = length-take-le 65537 f h in
      let offset = same_u16 0 (omega arith) in
      let k = same_u16 2 (omega arith) in
      let from : record_offset g ≡ record_offset f =
      ap (λ a. a + 65536 * u16_at g 6) (same_u16 4 (omega arith)) ∙ ap (λ b. u16_at f 4 + 65536 * b) (same_u16 6 (omega arith))
      in
      let n : record_count g ≡ record_count f =
      ap (λ a. a + 65536 * u16_at g 10) (same_u16 8 (omega arith)) ∙ ap (λ b. u16_at f 8 + 65536 * b) (same_u16 10 (omega arith))
      in
      long_header (length g) (table_offset g) (table_entries g) (record_offset g) (record_count g) (omega arith)
      ∙ ap (λ x. too_long x (table_entries g) (record_offset g) (record_count g)) offset
      ∙ ap (λ x. too_long (table_offset f) x (record_offset g) (record_count g)) k
      ∙ ap (λ x. too_long (table_offset f) (table_entries f) x (record_count g)) from
      ∙ ap (λ x. too_long (table_offset f) (table_entries f) (record_offset f) x) n
      ∙ sym (long_header (length f) (table_offset f) (table_entries f) (record_offset f) (record_count f) h)

  not_good : ¬ (first (headed f) ≡ 0)
  not_good e =
      some_field (eqb (table_offset f) 12) (eqb (table_entries f) 0 || (eqb (table_entries f) 18 || eqb (table_entries f) 22))
      (eqb (record_offset f) (12 + 2 * table_entries f)) (leb (record_count f) (most_records (table_entries f)))
      (sym (long_header (length f) (table_offset f) (table_entries f) (record_offset f) (record_count f) h) ∙ e)

  same_refusal : refusal_of g ≡ refusal_of f
  same_refusal =
      sym (header_refused g {h = first (headed g)} refl (λ e. not_good (sym same_header ∙ e)))
      ∙ ap (λ n. record { number = n; rule = 0 }) same_header
      ∙ header_refused f {h = first (headed f)} refl not_good

  refused_number : ¬ ((refusal_of f).number ≡ 0)
  refused_number e =
      not_good (ap (λ (r : Refusal). r.number) (header_refused f {h = first (headed f)} refl not_good) ∙ e)

  pub its_beginning_has_the_verdict : verdict_of (take 65537 f) ≡ verdict_of f
  its_beginning_has_the_verdict =
      sym (unread_file g (λ e. refused_number (ap (λ (r : Refusal). r.number) (sym same_refusal) ∙ e)))
      ∙ ap unread same_refusal
      ∙ unread_file f refused_number
