-- The round trip of files through a call of `write`: what it leaves in the lent buffer reads back, and a good file that was taken apart
-- stands there again, in eighteen entries where it had none or twenty-two with four zeros.
-- Assumes nothing.
use Rattle.std.proofs.Common.{Option}
use mathlib.Core.Path.{◌≡◌, sym, ap, subst, ◌∙◌}
use mathlib.Core.List.{List}
use Prim.Native.Nat.{ℕ, ◌+◌, ◌*◌, ◌-◌, ◌≤◌}
use native.Mathlib.Omega.{arith}
use lib.Dec.{leb, eqb, eqb→eq}
use lib.ListN.{length, take, drop}
use lib.Seq.{take-append_seam, drop-append_seam}
use borrow.Author.Tests.{eqb-true, eqb-false, leb-true}
use contract.Lifetimes.{Lfts}
use denote.Triple.Entry.{Args}
use denote.Triple.Clauses.{AtExit}
use Rattle.checks.specs.Checks.{first}
use Rattle.checks.proofs.Checks.{first→holds}
use Rattle.checks.proofs.Tests.{case}
use Rattle.limits.specs.declared.Table.{Table}
use Rattle.limits.specs.Rules.{broken_rule}
use Rattle.shift.specs.Readings.{Reading}
use Rattle.std.proofs.Common.{Result}
use Rattle.stepfile.specs.declared.write.Unwritten.{Unwritten}
use Rattle.stepfile.specs.Files.{table_entries, table_in, refusal_of, readings_of}
use Rattle.stepfile.specs.Writing.{Written, Wrong, wished, entries_for, file_of, size_of, first_wrong, writable, fitting, after_records, after_lists, written_as, written_of, buffer_after}
use Rattle.stepfile.specs.RoundTrip.{Bytes, readings_by, AllRead, OtherEntries, codes_in, amounts_in}
use Rattle.stepfile.proofs.WritingLaws.{size}
use Rattle.stepfile.proofs.WriteLaws.{written}
use Rattle.stepfile.proofs.RoundTrip.{written_is_good, written_reads_back_the_table, written_reads_back_the_steps, written_steps_all_read, read_is_written_back, read_is_writable, InEighteen, others_are_written_in_eighteen}
use Rattle.stepfile.specs.contracts.write.write as write_call
use Rattle.stepfile.proofs.write.write.Reads as write_reads

-- ---- what is said
-- a good file with this table and these steps, all of which read
pub record GoodFileOf (t : Table) (steps : List Reading) (f : List ℕ) : Type 0 where
  pub good : (refusal_of f).number ≡ 0
  pub table : table_in f ≡ t
  pub read : readings_of f ≡ steps
  pub all_read : AllRead steps

-- the first n bytes of a buffer are such a file, n is its length, and all other bytes are as before
pub record Stands (t : Table) (steps : List Reading) (n : ℕ) (before after : List ℕ) : Type 0 where
  pub file : GoodFileOf t steps (take n after)
  pub size : length (take n after) ≡ n
  pub rest : drop n after ≡ drop n before

-- a good file whose records all read, and the codes and amounts that were read of it
pub record TakenApart (f codes amounts : List ℕ) : Type 0 where
  pub bytes : Bytes f
  pub good : (refusal_of f).number ≡ 0
  pub all_read : AllRead (readings_of f)
  pub codes_in_lem : codes ≡ codes_in f
  pub amounts_in_lem : amounts ≡ amounts_in f

-- the writer answers 0 and the file's length, the file stands at the buffer's start, and all other bytes are as before
pub record StandsAgain (f : List ℕ) (r : Written) (before after : List ℕ) : Type 0 where
  pub answer : r ≡ record { number = 0; rule = 0; index = 0; length = length f }
  pub file : take (length f) after ≡ f
  pub rest : drop (length f) after ≡ drop (length f) before

-- the length of a file once it has eighteen entries
abbrev pub long_in_eighteen : List ℕ → ℕ
long_in_eighteen f = length f + 36 - 2 * table_entries f

-- the writer answers 0 and that length, so many first bytes of the buffer are the file in eighteen entries, and all other bytes are as
-- before
pub record StandsInEighteen (f : List ℕ) (r : Written) (before after : List ℕ) : Type 0 where
  pub answer : r ≡ record { number = 0; rule = 0; index = 0; length = long_in_eighteen f }
  pub file : InEighteen f (take (long_in_eighteen f) after)
  pub rest : drop (long_in_eighteen f) after ≡ drop (long_in_eighteen f) before

-- ---- an answer of 0 tells that every check holds
every_check :
    (k rule : ℕ) (x : Wrong) (n room : ℕ) → (after_lists k rule (after_records x (fitting n room))).number ≡ 0
    → (k ≡ 0) × (x.number ≡ 0) × (n ≤ room)
every_check k rule x n room e =
    case (eqb k 0)
    (λ p.
    case (eqb x.number 0)
    (λ q.
    case (leb n room)
    (λ l. (eqb-true k 0 p, eqb-true x.number 0 q, leb-true n room l))
    (λ l. let z = rw (p, q, l) at e in absurd (omega arith)))
    (λ q. let z = rw (p, q) at e in absurd (eqb-false x.number 0 q z)))
    (λ p. let z = rw p at e in absurd (eqb-false k 0 p z))

-- ---- of an answer and a buffer that are the writer's
module _
    (t : Table) (codes amounts before after : List ℕ) (r : Written) (a : r ≡ written_of t codes amounts (length before))
    (b : after ≡ buffer_after t codes amounts before) where
  abbrev file : List ℕ
  file = file_of t codes amounts

  pub long : first (writable t codes amounts) ≡ 0 → length file ≡ size_of t codes
  long e = size (entries_for t) codes amounts (eqb→eq (length codes) (length amounts) (first→holds 0 (writable t codes amounts) tt e).0.0)

  pub stands :
      first (writable t codes amounts) ≡ 0 → (first_wrong 0 codes amounts).number ≡ 0 → size_of t codes ≤ length before
      → StandsAgain file r before after
  stands e z room =
      let k = written t codes amounts before e z room in
      let buffer = b ∙ sym k.1 in
      let rest = drop (size_of t codes) before in
      record {
        answer = a ∙ sym k.0 ∙ ap (λ n. record { number = 0; rule = 0; index = 0; length = n }) (sym (long e));
        file = ap (take (length file)) buffer ∙ take-append_seam file rest;
        rest = ap (drop (length file)) buffer ∙ drop-append_seam file rest ∙ ap (λ n. drop n before) (sym (long e));
      }

  pub passed :
      r.number ≡ 0
      → (first (writable t codes amounts) ≡ 0) × ((first_wrong 0 codes amounts).number ≡ 0) × (size_of t codes ≤ length before)
  passed z =
      every_check (first (writable t codes amounts)) (broken_rule t) (first_wrong 0 codes amounts) (size_of t codes) (length before)
      (ap (λ (q : Written). q.number) (sym a) ∙ z)

  pub reads_back : r.number ≡ 0 → Stands t (readings_by codes amounts) r.length before after
  reads_back z =
      let steps = readings_by codes amounts in
      let h = passed z in
      let s = stands h.0 h.1 h.2 in
      subst (λ n. Stands t steps n before after) (sym (ap (λ (q : Written). q.length) s.answer)) record {
        file =
            subst (GoodFileOf t steps) (sym s.file) record {
              good = written_is_good t codes amounts h.0;
              table = written_reads_back_the_table t codes amounts h.0;
              read = written_reads_back_the_steps t codes amounts h.0 h.1;
              all_read = written_steps_all_read t codes amounts h.0 h.1;
            };
        size = ap length s.file;
        rest = s.rest;
      }

  -- a good file that was taken apart
  module _ (f : List ℕ) (p : TakenApart f codes amounts) (v : t ≡ table_in f) where
    stands_for : length file ≤ length before → StandsAgain file r before after
    stands_for room =
        let h : (first (writable t codes amounts) ≡ 0) × ((first_wrong 0 codes amounts).number ≡ 0) =
        rw (v, p.codes_in_lem, p.amounts_in_lem) (read_is_writable f p.bytes p.good p.all_read)
        in
        stands h.0 h.1 (subst (λ n. n ≤ length before) (long h.0) room)

    pub gives_the_file_back : ¬ OtherEntries f → length f ≤ length before → StandsAgain f r before after
    gives_the_file_back z room =
        let same : file ≡ f =
        rw (v, p.codes_in_lem, p.amounts_in_lem) (read_is_written_back f p.bytes p.good p.all_read z)
        in
        subst (λ g. StandsAgain g r before after) same (stands_for (subst (λ g. length g ≤ length before) (sym same) room))

    pub gives_the_file_in_eighteen : OtherEntries f → long_in_eighteen f ≤ length before → StandsInEighteen f r before after
    gives_the_file_in_eighteen z room =
        let other : InEighteen f file =
        rw (v, p.codes_in_lem, p.amounts_in_lem) (others_are_written_in_eighteen f p.bytes p.good p.all_read z)
        in
        let long : length file ≡ long_in_eighteen f = omega (arith, other.size) in
        let s = stands_for (omega arith) in
        record {
          answer = s.answer ∙ ap (λ n. record { number = 0; rule = 0; index = 0; length = n }) long;
          file = subst (InEighteen f) (sym (ap (λ n. take n after) (sym long) ∙ s.file)) other;
          rest = ap (λ n. drop n after) (sym long) ∙ s.rest ∙ ap (λ n. drop n before) long;
        }

-- ---- of a call of `write`, whatever its contract allows
module _
    (κs : Lfts 3) (given : Args write_call.signature κs) (r : Result ℕ Unwritten) (left : AtExit write_call.ended κs)
    (call : write_reads.Post κs given r left) where
  abbrev pub wish : Option Table
  wish = given.0

  abbrev pub answer : Written
  answer = written_as r

  abbrev pub codes : List ℕ
  codes = given.1.0.now

  abbrev pub amounts : List ℕ
  amounts = given.1.1.0.now

  -- the buffer
  abbrev pub before : List ℕ
  before = given.1.1.1.0.now

  abbrev pub after : List ℕ
  after = left.1.1.1.0.now

  pub write_reads_back : answer.number ≡ 0 → Stands (wished wish) (readings_by codes amounts) answer.length before after
  write_reads_back = reads_back (wished wish) codes amounts before after answer call.0 call.1

  pub write_gives_the_file_back :
      (f : List ℕ) → TakenApart f codes amounts → wished wish ≡ table_in f → ¬ OtherEntries f → length f ≤ length before
      → StandsAgain f answer before after
  write_gives_the_file_back = gives_the_file_back (wished wish) codes amounts before after answer call.0 call.1

  pub write_gives_the_file_in_eighteen :
      (f : List ℕ) → TakenApart f codes amounts → wished wish ≡ table_in f → OtherEntries f → long_in_eighteen f ≤ length before
      → StandsInEighteen f answer before after
  write_gives_the_file_in_eighteen = gives_the_file_in_eighteen (wished wish) codes amounts before after answer call.0 call.1
