-- Laws on the header and the table of a file that was written, and on what makes a file a good one.
-- Assumes nothing.
use mathlib.Core.Path.{◌≡◌, refl, sym, ap, ◌∙◌}
use mathlib.Core.Bool.{cond}
use mathlib.Core.List.{List, [], ◌∷◌, ◌++◌}
use Prim.Native.Nat.{ℕ, zero, suc, ◌+◌, ◌*◌, ◌/◌, ◌%◌, ◌≤◌}
use native.Mathlib.Omega.{arith}
use lib.ListN.{length, drop}
use lib.Seq.{drop_at, get_or-drop}
use borrow.Author.Tests.{eq-eqb, ne_eqb, le-leb}
use Rattle.checks.proofs.Checks.{Holds, holds→first}
use Rattle.checks.proofs.Tests.{tests}
use Rattle.limits.specs.Limits.{table_of, old_default}
use Rattle.limits.specs.Rules.{broken_rule}
use Rattle.numbers.specs.Bytes.{u16s_at, bytes_of}
use Rattle.stepfile.specs.Files.{table_entries, record_offset, record_count, most_records, headed_by, headed, table_in, refusal_of, from_offset, record_bytes}
use Rattle.stepfile.specs.Writing.{header_of}
use Rattle.stepfile.proofs.EntryLaws.{Few, fitting}
use Rattle.stepfile.proofs.FileLaws.{not_refused}
use Rattle.numbers.proofs.StoreLaws.{bytes_of-append, length-bytes_of}

-- ---- the numbers of 16 bits that were written are read
pub dropped : (l : List ℕ) (i j n : ℕ) → u16s_at (drop i l) j n ≡ u16s_at l (i + j) n
dropped l i j zero = refl
dropped l i j (suc n) =
    let one : i + (j + 1) ≡ i + j + 1 = omega arith in
    let two : i + (j + 2) ≡ i + j + 2 = omega arith in
    rw (get_or-drop i l j 0, get_or-drop i l (j + 1) 0, dropped l i (j + 2) n, one, two)

pub read_back : (xs ys : List ℕ) → u16s_at (bytes_of (xs ++ ys)) 0 (length xs) ≡ xs
read_back [] ys = refl
read_back (x ∷ xs) ys =
    let whole : x % 256 + 256 * (x / 256) ≡ x = omega arith in
    rw (← dropped (bytes_of ((x ∷ xs) ++ ys)) 2 0 (length xs), read_back xs ys, whole)

-- ---- the header that was written is read
module _ (k n : ℕ) (rest : List ℕ) where
  abbrev headed_file : List ℕ
  headed_file = bytes_of (header_of k n ++ rest)

  pub entries_back : table_entries headed_file ≡ k
  entries_back = omega arith

  pub offset_back : record_offset headed_file ≡ 12 + 2 * k
  offset_back = omega arith

  pub count_back : record_count headed_file ≡ n
  count_back = omega arith

-- ---- the table of a file with entries, and of one without
pub with_twenty_two : (f : List ℕ) → 56 ≤ length f → table_entries f ≡ 22 → table_in f ≡ table_of (u16s_at f 12 22)
unfolding table_in
with_twenty_two f l e = rw (eq-eqb (table_entries f) 22 e, le-leb 56 (length f) l)

pub with_eighteen : (f : List ℕ) → 48 ≤ length f → table_entries f ≡ 18 → table_in f ≡ table_of (u16s_at f 12 18)
unfolding table_in
with_eighteen f l e = rw (ne_eqb (table_entries f) 22 (omega arith), eq-eqb (table_entries f) 18 e, le-leb 48 (length f) l)

pub without_entries : (f : List ℕ) → table_entries f ≡ 0 → table_in f ≡ old_default
unfolding table_in
without_entries f e = rw (ne_eqb (table_entries f) 22 (omega arith), ne_eqb (table_entries f) 18 (omega arith))

-- ---- a file is good whose header fields and table are
pub headed_well :
    (len offset k from n : ℕ) → offset ≡ 12 → Few k → from ≡ 12 + 2 * k → n ≤ most_records k → len ≡ 12 + 2 * k + 4 * n
    → Holds (headed_by len offset k from n)
headed_well len offset k from n o e r m l =
    (omega (arith, tests), (omega (arith, tests), (fitting k e, (omega (arith, tests)))))

pub well : (f : List ℕ) → Holds (headed f) → broken_rule (table_in f) ≡ 0 → (refusal_of f).number ≡ 0
well f h b = let z = holds→first (headed f) h in sym (ap (λ r. r.number) (not_refused f refl z refl b))

-- ---- the record bytes of a good file
pub records_from : (f : List ℕ) → (refusal_of f).number ≡ 0 → 12 ≤ length f → record_bytes f ≡ drop (record_offset f) f
records_from f e l =
    ap (λ b. cond b (from_offset f) []) (eq-eqb (refusal_of f).number 0 e)
    ∙ ap (λ b. cond b (drop (record_offset f) f) []) (le-leb 12 (length f) l)

-- ---- what was written behind the entries
pub behind : (k n : ℕ) (es rs : List ℕ) → length es ≡ k → drop (12 + 2 * k) (bytes_of (header_of k n ++ (es ++ rs))) ≡ bytes_of rs
behind k n es rs e =
    let b = length-bytes_of es in
    rw (bytes_of-append (header_of k n ++ es) rs) (drop_at (bytes_of (header_of k n ++ es)) (bytes_of rs) (12 + 2 * k) (omega arith))
