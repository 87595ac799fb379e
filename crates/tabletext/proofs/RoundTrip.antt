-- What is printed as text reads back to the same table.
-- Assumes nothing.
use mathlib.Core.Path.{◌≡◌, refl, sym, ap, subst, ◌∙◌}
use mathlib.Core.Bool.{not}
use mathlib.Core.Logic.{⊎_elim}
use mathlib.Core.List.{List, [], ◌∷◌, ◌++◌, map, append_assoc, append-nil}
use Prim.Native.Nat.{ℕ, suc, ◌+◌, ◌≤◌, ◌<◌}
use native.Mathlib.Omega.{arith}
use lib.Dec.{T, leb, eqb, leb→le, lit≤}
use lib.ListN.{length, get_or, set, replicate, take, drop, length-append}
use lib.Seq.{get_or_at, set_at, take-append_seam, append_snoc}
use borrow.Author.Tests.{le-leb, le-ltb, ne_eqb, not-true}
use Rattle.checks.proofs.Ranges.{below}
use Rattle.checks.specs.Checks.{first}
use Rattle.checks.proofs.Tests.{case, passed, left, right, both, tests}
use Rattle.checks.proofs.Checks.{holds→first}
use Rattle.limits.specs.declared.Table.{Table}
use Rattle.limits.specs.Limits.{limits, entries, table_of}
use Rattle.limits.specs.Limits as table
use Rattle.line.specs.Decimals.{decimal_of}
use Rattle.line.specs.Lines.{field}
use Rattle.line.specs.Laying.{laid_in, laid, after}
use Rattle.tablewords.specs.declared.Class.TheVariants.{Inline}
use Rattle.std.specs.Prelude.{Ok}
use Rattle.tabletext.specs.Answers.{Entry, Says}
use Rattle.tablewords.specs.Words.{line_feed, holds, digit, all_digits, value_from, capped}
use Rattle.tablewords.specs.Names.{name}
use Rattle.tabletext.specs.Texts.{onto, lines, line_of, not_given, nothing_given, entry_checks, absent_from, undelayed, wanted, missing, or_zero, ended, read_from, read_of}
use Rattle.stepfile.proofs.EntryLaws.{delays, in_eighteen, in_twenty_two, same_table}
use Rattle.tabletext.specs.Printed.{value_part, entry_line, lines_from, text_of}
use Rattle.tabletext.proofs.lay.lay.Reads as lay_reads
use Rattle.tabletext.proofs.read.Reads as read_reads
use Rattle.tabletext.proofs.AnswerLaws.{same_answer}
use Rattle.tabletext.proofs.FormLaws.{all, line_says}
use Rattle.tabletext.proofs.DigitLaws.{are_digits, at_least_one, value_is}

-- ---- a line that ends, and the lines behind it
pub one_line : (l rest : List ℕ) → T (all Inline l) → lines (l ++ (line_feed ∷ rest)) ≡ l ∷ lines rest
one_line [] rest h = refl
one_line (b ∷ bs) rest h =
    let no = not-true (eqb b line_feed) (passed (not (eqb b line_feed)) (left (holds Inline b) (all Inline bs) h)) in
    rw no (ap (onto b) (one_line bs rest (right (holds Inline b) (all Inline bs) h)))

-- ---- a printed line says its entry
printed_by : (i : ℕ) (ds : List ℕ) → i < 22 → T (all_digits ds) → 1 ≤ length ds → line_of (name i ++ (32 ∷ ds)) ≡ Entry i (capped (value_from 0 ds))
printed_by i [] k h l = absurd (omega arith)
printed_by i (d ∷ ds) k h l =
    subst (λ e. line_of (name i ++ (32 ∷ e)) ≡ Entry i (capped (value_from 0 (d ∷ ds)))) (append-nil (d ∷ ds)) (line_says [] [] [] [] 32 d ds i tt tt h tt tt k)

printed_line : (i v : ℕ) → i < 22 → v ≤ 65535 → line_of (name i ++ field v) ≡ Entry i v
printed_line i v k h = printed_by i (decimal_of v) k (are_digits v) (at_least_one v) ∙ rw (value_is v, le-leb v 65535 h)

-- ---- it has no line feed
digit_inline : (b : ℕ) → T (digit b) → T (holds Inline b)
digit_inline b h = let low = leb→le 48 b (left (leb 48 b) (leb b 57) h) in rw (ne_eqb b 10 (λ e. absurd (omega arith))) tt

digits_inline : (ds : List ℕ) → T (all_digits ds) → T (all Inline ds)
digits_inline [] h = tt
digits_inline (d ∷ ds) h =
    both (holds Inline d) (all Inline ds) (digit_inline d (left (digit d) (all_digits ds) h)) (digits_inline ds (right (digit d) (all_digits ds) h))

two_inline : (xs ys : List ℕ) → T (all Inline xs) → T (all Inline ys) → T (all Inline (xs ++ ys))
two_inline [] ys h k = k
two_inline (x ∷ xs) ys h k =
    both (holds Inline x) (all Inline (xs ++ ys)) (left (holds Inline x) (all Inline xs) h) (two_inline xs ys (right (holds Inline x) (all Inline xs) h) k)

name_inline : (i : ℕ) → i < 22 → T (all Inline (name i))
name_inline = below (λ i. T (all Inline (name i))) 22 (omega arith)

line_inline : (i v : ℕ) → i < 22 → T (all Inline (name i ++ field v))
line_inline i v k = two_inline (name i) (field v) (name_inline i k) (digits_inline (decimal_of v) (are_digits v))

printed_first : (i v : ℕ) (vs : List ℕ) → i < 22 → lines (lines_from i (v ∷ vs)) ≡ (name i ++ field v) ∷ lines (lines_from (suc i) vs)
printed_first i v vs k =
    let rest = lines_from (suc i) vs in
    let one : entry_line i v ++ rest ≡ (name i ++ field v) ++ (line_feed ∷ rest) =
    append_assoc (name i) (value_part v) rest
    ∙ ap (name i ++◌) (append_assoc (field v) (line_feed ∷ []) rest)
    ∙ sym (append_assoc (name i) (field v) (line_feed ∷ rest)) in
    ap lines one ∙ one_line (name i ++ field v) rest (line_inline i v k)

-- ---- each of these entries has 16 bits
abbrev pub Within16 : List ℕ → Type 0
Within16 [] = Unit {0}
Within16 (v ∷ vs) = (v ≤ 65535) × Within16 vs

-- ---- the lines of entries from i on are read behind those that gave the entries before
pub sound : (v : ℕ) → v ≤ 65535 → first (entry_checks not_given v) ≡ 0
sound v h = holds→first (entry_checks not_given v) (omega (arith, tests))

read_on : (n i k : ℕ) (front vs : List ℕ) → length front ≡ i → i + length vs ≤ 22 → Within16 vs
    → read_from n (front ++ replicate (length vs + k) not_given) (lines (lines_from i vs))
    ≡ read_from (n + length vs) ((front ++ vs) ++ replicate k not_given) ([] ∷ [])
read_on n i k front [] e f w =
    let none : 0 + k ≡ k = omega arith in
    let still : n + 0 ≡ n = omega arith in
    rw (none, still, append-nil front)
read_on n i k front (v ∷ vs) e f w =
    let given = front ++ (not_given ∷ replicate (length vs + k) not_given) in
    let line = printed_line i v (omega (arith, f)) w.0 in
    let before : get_or given i 0 ≡ not_given = get_or_at front not_given (replicate (length vs + k) not_given) 0 i e in
    let put : set given i v ≡ (front ++ (v ∷ [])) ++ replicate (length vs + k) not_given =
    set_at front not_given (replicate (length vs + k) not_given) v i e ∙ sym (append_snoc front v (replicate (length vs + k) not_given)) in
    let good = sound v w.0 in
    let size : length (front ++ (v ∷ [])) ≡ suc i = omega (arith, e, length-append front (v ∷ [])) in
    let more : suc (length vs) + k ≡ suc (length vs + k) = omega arith in
    let count : n + suc (length vs) ≡ suc n + length vs = omega arith in
    rw (more, printed_first i v vs (omega (arith, f)), line, before, good, put, count, ← append_snoc front v vs)
    (read_on (suc n) (suc i) k (front ++ (v ∷ [])) vs size (omega (arith, f)) w.1)

-- ---- at the end nothing is missing, and the table is the one that was printed
absent_past : (i : ℕ) (vs rest : List ℕ) → Within16 vs → absent_from i (vs ++ rest) ≡ absent_from (i + length vs) rest
absent_past i [] rest w = let still : i + 0 ≡ i = omega arith in rw still
absent_past i (v ∷ vs) rest w =
    let small : v ≤ 65535 = w.0 in
    let count : i + suc (length vs) ≡ suc i + length vs = omega arith in
    rw (ne_eqb v not_given (λ e. absurd (omega arith)), count) (absent_past (suc i) vs rest w.1)

as_given : (vs rest : List ℕ) → Within16 vs → map or_zero (vs ++ rest) ≡ vs ++ map or_zero rest
as_given [] rest w = refl
as_given (v ∷ vs) rest w = rw (le-leb v 65535 w.0) (ap (v ∷◌) (as_given vs rest w.1))

pub none_missing : (given : List ℕ) → wanted given ≤ absent_from 0 given → missing given ≡ 22
none_missing given h = rw (le-ltb (absent_from 0 given) (wanted given) h)

pub says : (n : ℕ) (given : List ℕ) → missing given ≡ 22 → ended n given ≡ Says (table_of (map or_zero given))
says n given e = rw e

last_line : (n : ℕ) (given : List ℕ) → read_from n given ([] ∷ []) ≡ ended (suc n) given
unfolding line_of
last_line n given = refl

-- the entries vs, with k more that are not given
module _ (vs : List ℕ) (k : ℕ) (size : length vs + k ≡ 22) (w : Within16 vs) where
  abbrev given : List ℕ
  given = vs ++ replicate k not_given

  all_read : read_of (lines_from 0 vs) ≡ ended (suc (0 + length vs)) given
  unfolding read_of
  all_read =
      let start : nothing_given ≡ replicate (length vs + k) not_given = ap (λ n. replicate n not_given) (sym size) in
      ap (λ g. read_from 0 g (lines (lines_from 0 vs))) start
      ∙ read_on 0 0 k [] vs refl (omega (arith, size)) w
      ∙ last_line (0 + length vs) given

  reads_as : wanted given ≤ absent_from (0 + length vs) (replicate k not_given)
      → read_of (lines_from 0 vs) ≡ Says (table_of (vs ++ map or_zero (replicate k not_given)))
  reads_as h =
      all_read
      ∙ says (suc (0 + length vs)) given (none_missing given (rw (absent_past 0 vs (replicate k not_given) w) h))
      ∙ ap (λ l. Says (table_of l)) (as_given vs (replicate k not_given) w)

pub printed_reads_back : (t : Table) → Within16 (entries t) → read_of (text_of t) ≡ Says t
unfolding text_of
printed_reads_back t w =
    ⊎_elim
    (λ n.
    ap (λ l. read_of (lines_from 0 l)) (in_eighteen t n)
    ∙ reads_as (limits t) 4 refl (before (limits t) (table.delays t) w) (lit≤ tt)
    ∙ ap Says (ap table_of (sym (in_eighteen t n)) ∙ same_table t))
    (λ n.
    ap (λ l. read_of (lines_from 0 l)) (in_twenty_two t n)
    ∙ reads_as (entries t) 0 refl w (fits t)
    ∙ ap Says (ap table_of (append-nil (entries t))))
    (delays t)
  where
    before : (xs ys : List ℕ) → Within16 (xs ++ ys) → Within16 xs
    before [] ys h = tt
    before (x ∷ xs) ys h = (h.0, before xs ys h.1)

    fits : (t : Table) → wanted (entries t ++ []) ≤ 22
    fits t =
        let g = entries t ++ [] in
        case (undelayed (get_or g 18 0) (get_or g 19 0) (get_or g 20 0) (get_or g 21 0)) (λ e. rw e (omega arith)) (λ e. rw e (omega arith))

-- ---- a text that was laid stands at the buffer's start
laid_there : (text out : List ℕ) → (laid text out).number ≡ 0 → take (laid text out).length (after text out) ≡ text
laid_there text out z =
    case (leb (length text) (length out))
    (λ e. rw e (take-append_seam text (drop (length text) out)))
    (λ e. absurd (fifteen (rw e at z)))
  where
    fifteen : ◌≡◌ {A = ℕ} 15 0 → ⊥
    fifteen e = omega arith

-- ---- the same of the calls: what `lay` leaves in a buffer with room for it, `read` reads back
module _ (κs : _) (a : _) (r : _) (left : _) (call : lay_reads.Post κs a r left) where
  pub lay_reads_back :
      (laid_in r).number ≡ 0 → Within16 (entries a.0) → (λs : _) (b : _) (x : _) (at : _) → read_reads.Post λs b x at
      → b.0.now ≡ take (laid_in r).length left.1.0.now → x ≡ Ok a.0
  lay_reads_back z w λs b x at p e =
      let text = text_of a.0 in
      let out = a.1.0.now in
      let there : take (laid_in r).length left.1.0.now ≡ text = rw (call.1.0, call.1.1) (laid_there text out (rw call.1.0 at z)) in
      same_answer x (Ok a.0) (p ∙ ap read_of (e ∙ there) ∙ printed_reads_back a.0 w)
