-- Laws on a good file as a whole: what its checks tell, and its bytes as header, entries and records.
-- Assumes nothing.
use mathlib.Core.Path.{◌≡◌, sym, ap, ◌∙◌}
use mathlib.Core.Logic.{inl, inr}
use mathlib.Core.List.{List, [], ◌∷◌, ◌++◌}
use Prim.Native.Nat.{ℕ, zero, suc, ◌+◌, ◌*◌, ◌/◌, ◌%◌, ◌≤◌, ◌<◌}
use native.Mathlib.Omega.{arith}
use lib.Dec.{eqb}
use lib.ListN.{length, get_or, drop}
use lib.Seq.{drop-cons}
use Rattle.checks.specs.Checks.{◌!◌, first}
use Rattle.checks.proofs.Checks.{first→holds}
use Rattle.checks.proofs.Tests.{tests}
use Rattle.limits.specs.Limits.{entries}
use Rattle.limits.specs.Rules.{broken_rule}
use Rattle.numbers.specs.Bytes.{u16_at, u16s_at, bytes_of}
use Rattle.stepfile.specs.Files.{table_offset, table_entries, record_offset, record_count, most_records, headed_by, table_in, refusal_of}
use Rattle.stepfile.specs.Writing.{entries_for, most_for, header_of}
use Rattle.stepfile.specs.RoundTrip.{Bytes, OtherEntries}
use Rattle.numbers.proofs.StoreLaws.{bytes_of-append}
use Rattle.stepfile.proofs.EntryLaws.{Few, few, most_between, in_eighteen, in_twenty_two}
use Rattle.stepfile.proofs.TableLaws.{with_twenty_two, with_eighteen, without_entries}

-- ---- what the checks of a good file tell
pub record Good (len offset k from n r : ℕ) : Type 0 where
  pub begins : offset ≡ 12
  pub few : Few k
  pub follow : from ≡ 12 + 2 * k
  pub within : n ≤ most_records k
  pub most : n ≤ 16372
  pub whole : len ≡ 12 + 2 * k + 4 * n
  pub admitted : r ≡ 0

told : (len offset k from n r : ℕ) → first (headed_by len offset k from n ++ ((eqb r 0 ! 4) ∷ [])) ≡ 0 → Good len offset k from n r
told len offset k from n r e =
    let h = (first→holds 0 (headed_by len offset k from n ++ ((eqb r 0 ! 4) ∷ [])) tt e).0 in
    record {
      begins = omega (arith, tests);
      few = few k h.1.1.0;
      follow = omega (arith, tests);
      within = omega (arith, tests);
      most = omega (arith, tests, most_between k);
      whole = omega (arith, tests);
      admitted = omega (arith, tests);
    }

abbrev pub GoodFile : List ℕ → Type 0
GoodFile f =
    Good (length f) (table_offset f) (table_entries f) (record_offset f) (record_count f) (broken_rule (table_in f))

pub good_file : (f : List ℕ) → (refusal_of f).number ≡ 0 → GoodFile f
good_file f e =
    told (length f) (table_offset f) (table_entries f) (record_offset f) (record_count f) (broken_rule (table_in f)) e

-- ---- numbers of 16 bits that were read are written as the bytes that they were read of
module _ (l : List ℕ) (h : Bytes l) where
  two_bytes : (i : ℕ) → i + 1 < length l → u16_at l i % 256 ∷ u16_at l i / 256 ∷ drop (i + 2) l ≡ drop i l
  two_bytes i m =
      let a = h i in
      let b = h (i + 1) in
      let low : u16_at l i % 256 ≡ get_or l i 0 = omega arith in
      let high : u16_at l i / 256 ≡ get_or l (i + 1) 0 = omega arith in
      let one : suc i ≡ i + 1 = omega arith in
      let two : suc (i + 1) ≡ i + 2 = omega arith in
      rw (low, high, drop-cons l i 0 (omega arith), one, drop-cons l (i + 1) 0 m, two)

  pub numbers_written : (i m : ℕ) → i + 2 * m ≤ length l → bytes_of (u16s_at l i m) ++ drop (i + 2 * m) l ≡ drop i l
  numbers_written i zero r = let same : i + 2 * 0 ≡ i = omega arith in ap (λ j. drop j l) same
  numbers_written i (suc m) r =
      let next : i + 2 * suc m ≡ i + 2 + 2 * m = omega arith in
      ap (λ j. bytes_of (u16s_at l i (suc m)) ++ drop j l) next
      ∙ ap (λ t. u16_at l i % 256 ∷ u16_at l i / 256 ∷ t) (numbers_written (i + 2) m (omega arith))
      ∙ two_bytes i (omega arith)

-- ---- the header's six numbers
pub six : (a b c d e g k n : ℕ) → a ≡ 12 → b ≡ k → c + 65536 * d ≡ 12 + 2 * k → e + 65536 * g ≡ n → k ≤ 22 → n ≤ 16372
    → header_of k n ≡ a ∷ b ∷ c ∷ d ∷ e ∷ g ∷ []
six a b c d e g k n p q r s t u =
    let third : 12 + 2 * k ≡ c = omega arith in
    let fourth : d ≡ 0 = omega arith in
    let fifth : n ≡ e = omega arith in
    let sixth : g ≡ 0 = omega arith in
    rw (p, q, third, fourth, fifth, sixth)

-- ---- the entries that the writer writes of a file's table
module _ (f : List ℕ) where
  abbrev k : ℕ
  k = table_entries f

  -- they are eighteen of a file without entries, and of one with twenty-two and four zeros
  pub others_in_eighteen : OtherEntries f → length (entries_for (table_in f)) ≡ 18
  others_in_eighteen (inl e) = ap (λ t. length (entries_for t)) (without_entries f e)
  others_in_eighteen (inr z) = ap length (in_eighteen (table_in f) z.1)

  module _ (h : 12 + 2 * k ≤ length f) where
    eighteen_in : k ≡ 18 → entries_for (table_in f) ≡ u16s_at f 12 18
    eighteen_in e = ap entries_for (with_eighteen f (omega arith) e)

    -- else they are the file's
    pub entries_in : Few k → ¬ OtherEntries f → entries_for (table_in f) ≡ u16s_at f 12 k
    entries_in (inl e) z = absurd (z (inl e))
    entries_in (inr (inl e)) z = eighteen_in e ∙ ap (λ m. u16s_at f 12 m) (sym e)
    entries_in (inr (inr e)) z =
        in_twenty_two (table_in f) (λ n. z (inr (e, n)))
        ∙ ap entries (with_twenty_two f (omega arith) e)
        ∙ ap (λ m. u16s_at f 12 m) (sym e)

    -- as many records as the file may have the writer takes with its table
    most_fits : (n : ℕ) → Few k → n ≤ most_records k → n ≤ most_for (table_in f)
    most_fits n (inl e) m =
        let same : most_for (table_in f) ≡ 16372 = ap most_for (without_entries f e) in
        omega (arith, most_between k)
    most_fits n (inr (inl e)) m =
        let same : most_for (table_in f) ≡ 16372 = ap (λ es. most_records (length es)) (eighteen_in e) in
        omega (arith, most_between k)
    most_fits n (inr (inr e)) m =
        let least : most_records k ≡ 16370 = ap most_records e in
        omega (arith, most_between (length (entries_for (table_in f))))

-- ---- a good file has no more records than the writer takes with its table
pub no_more_than_written : (f : List ℕ) → (refusal_of f).number ≡ 0 → record_count f ≤ most_for (table_in f)
no_more_than_written f z =
    let g = good_file f z in
    most_fits f (omega (arith, g.whole)) (record_count f) g.few g.within

-- ---- a file of its parts
pub assembled :
    (f es rs : List ℕ) (k n : ℕ) → Bytes f → 12 ≤ length f → header_of k n ≡ u16s_at f 0 6 → bytes_of es ++ bytes_of rs ≡ drop 12 f
    → bytes_of (header_of k n ++ (es ++ rs)) ≡ f
assembled f es rs k n b l h e =
    ap (λ t. bytes_of (header_of k n) ++ t) (bytes_of-append es rs ∙ e)
    ∙ ap (λ t. bytes_of t ++ drop 12 f) h
    ∙ numbers_written f b 0 6 l
