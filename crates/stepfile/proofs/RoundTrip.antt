-- What is written reads back, as a good file with the table and the steps that were given; of a good file whose records are all steps
-- the writer makes the same file; and of one without entries, or of twenty-two with four zeros, a file of eighteen.
-- Assumes nothing.
use mathlib.Core.Path.{◌≡◌, refl, sym, ap, ◌∙◌, subst}
use mathlib.Core.Logic.{◌⊎◌, inl, inr}
use mathlib.Core.List.{List, ◌++◌}
use Prim.Native.Nat.{ℕ, ◌+◌, ◌*◌, ◌≤◌}
use native.Mathlib.Omega.{arith}
use lib.ListN.{length, drop, length-drop}
use lib.Seq.{get_or-drop}
use Rattle.checks.specs.Checks.{first}
use Rattle.checks.proofs.Checks.{Holds, holds→first, first→holds}
use Rattle.checks.proofs.Tests.{tests}
use Rattle.limits.specs.declared.Table.{Table}
use Rattle.limits.specs.Limits.{entries, table_of}
use Rattle.limits.specs.Rules.{broken_rule}
use Rattle.numbers.specs.Bytes.{u16_at, u16s_at, bytes_of}
use Rattle.stepfile.specs.Records.{record_of, every_four, records_in}
use Rattle.stepfile.specs.Files.{table_entries, record_offset, record_count, most_records, headed, table_in, refusal_of, record_bytes, readings_of}
use Rattle.stepfile.specs.Writing.{entries_for, most_for, header_of, records_of, file_with, file_of, first_wrong, lists, writable}
use Rattle.stepfile.specs.RoundTrip.{Bytes, readings_by, AllRead, codes_of, amounts_of, OtherEntries, codes_in, amounts_in}
use Rattle.stepfile.proofs.ByteLaws.{length-u16s_at}
use Rattle.stepfile.proofs.EntryLaws.{Few, at_most_22, how_many, same_table}
use Rattle.stepfile.proofs.WritingLaws.{size}
use Rattle.stepfile.proofs.TableLaws.{dropped, read_back, entries_back, offset_back, count_back, with_twenty_two, with_eighteen, headed_well, well, records_from, behind}
use Rattle.stepfile.proofs.StepLaws.{records_back, all_read}
use Rattle.stepfile.proofs.ReadLaws.{counted, records_written, none_wrong}
use Rattle.stepfile.proofs.WholeLaws.{GoodFile, good_file, numbers_written, six, others_in_eighteen, entries_in, no_more_than_written, assembled}

-- ---- a file with entries, codes and amounts
module _ (es cs ns : List ℕ) (e : length cs ≡ length ns) where
  abbrev f : List ℕ
  f = file_with es cs ns

  abbrev rest : List ℕ
  rest = es ++ records_of cs ns

  entries_of : table_entries f ≡ length es
  entries_of = entries_back (length es) (length cs) rest

  u16s_of : u16s_at f 12 (length es) ≡ es
  u16s_of = sym (dropped f 12 0 (length es)) ∙ read_back es (records_of cs ns)

  table_of_lem : (length es ≡ 18) ⊎ (length es ≡ 22) → table_in f ≡ table_of es
  table_of_lem (inl k) =
      with_eighteen f (omega (arith, size es cs ns e)) (entries_of ∙ k) ∙ ap table_of (ap (u16s_at f 12) (sym k) ∙ u16s_of)
  table_of_lem (inr k) =
      with_twenty_two f (omega (arith, size es cs ns e)) (entries_of ∙ k) ∙ ap table_of (ap (u16s_at f 12) (sym k) ∙ u16s_of)

  header_is_good : Few (length es) → length cs ≤ most_records (length es) → Holds (headed f)
  header_is_good k m =
      let s = size es cs ns e in
      let a = entries_of in
      let b = offset_back (length es) (length cs) rest in
      let c = count_back (length es) (length cs) rest in
      headed_well
      (length f)
      12
      (table_entries f)
      (record_offset f)
      (record_count f)
      refl
      (subst Few (sym a) k)
      (omega arith)
      (subst (λ q. record_count f ≤ most_records q) (sym a) (omega arith))
      (omega arith)

  record_bytes_lem : (refusal_of f).number ≡ 0 → record_bytes f ≡ bytes_of (records_of cs ns)
  record_bytes_lem z =
      records_from f z (omega (arith, size es cs ns e))
      ∙ ap (λ i. drop i f) (offset_back (length es) (length cs) rest)
      ∙ behind (length es) (length cs) es (records_of cs ns) refl

-- ---- what is written is a good file and reads back
-- what the writer's first three checks tell, of the lists' lengths, the record maximum and the table's broken rule
accepted : (a b m r : ℕ) → first (lists a b m r) ≡ 0 → (a ≡ b) × (a ≤ m) × (r ≡ 0)
accepted a b m r e = let h = (first→holds 0 (lists a b m r) tt e).0 in omega (arith, tests)

known :
    (t : Table) (cs ns : List ℕ) → first (writable t cs ns) ≡ 0
    → (length cs ≡ length ns) × (length cs ≤ most_for t) × (broken_rule t ≡ 0)
known t cs ns e = accepted (length cs) (length ns) (most_for t) (broken_rule t) e

module _ (t : Table) (cs ns : List ℕ) (e : first (writable t cs ns) ≡ 0) where
  pub written_in_so_many : table_entries (file_of t cs ns) ≡ length (entries_for t)
  written_in_so_many = entries_of (entries_for t) cs ns (known t cs ns e).0

  pub written_reads_back_the_table : table_in (file_of t cs ns) ≡ t
  written_reads_back_the_table = table_of_lem (entries_for t) cs ns (known t cs ns e).0 (how_many t) ∙ same_table t

  pub written_is_good : (refusal_of (file_of t cs ns)).number ≡ 0
  written_is_good =
      let h = known t cs ns e in
      well
      (file_of t cs ns)
      (header_is_good (entries_for t) cs ns h.0 (inr (how_many t)) h.1)
      (ap broken_rule written_reads_back_the_table ∙ h.2)

  pub written_reads_back_the_steps : (first_wrong 0 cs ns).number ≡ 0 → readings_of (file_of t cs ns) ≡ readings_by cs ns
  written_reads_back_the_steps r =
      ap records_in (record_bytes_lem (entries_for t) cs ns (known t cs ns e).0 written_is_good) ∙ records_back 0 cs ns r

  pub written_steps_all_read : (first_wrong 0 cs ns).number ≡ 0 → AllRead (readings_by cs ns)
  written_steps_all_read r = all_read 0 cs ns r

-- ---- any admitted table, also one whose delays are 0, reads back from twenty-two entries
pub twenty_two_entries_read_back :
    (t : Table) (cs ns : List ℕ) → broken_rule t ≡ 0 → length cs ≡ length ns → length cs ≤ 16370 → (first_wrong 0 cs ns).number ≡ 0
    → let f = file_with (entries t) cs ns in
    (table_entries f ≡ 22) × ((refusal_of f).number ≡ 0) × (table_in f ≡ t) × (readings_of f ≡ readings_by cs ns)
twenty_two_entries_read_back t cs ns b e m r =
    let es = entries t in
    let same = table_of_lem es cs ns e (inr refl) in
    let good = well (file_with es cs ns) (header_is_good es cs ns e (inr (inr refl)) m) (ap broken_rule same ∙ b) in
    (entries_of es cs ns e, good, same, ap records_in (record_bytes_lem es cs ns e good) ∙ records_back 0 cs ns r)

-- ---- a good file whose records are all steps, taken apart
module _ (f : List ℕ) (b : Bytes f) (e : (refusal_of f).number ≡ 0) (all : AllRead (readings_of f)) where
  good : GoodFile f
  good = good_file f e

  abbrev ends : ℕ
  ends = 12 + 2 * table_entries f

  abbrev records : List ℕ
  records = drop ends f

  records_in_lem : record_bytes f ≡ records
  records_in_lem =
      let w = good.whole in
      records_from f e (omega arith) ∙ ap (λ i. drop i f) good.follow

  records-length : length records ≡ 4 * record_count f
  records-length = let w = good.whole in let d = length-drop ends f in omega arith

  steps_in : AllRead (records_in records)
  steps_in = subst (λ l. AllRead (records_in l)) records_in_lem all

  -- of each record one
  counted_in : (each : ℕ → ℕ → ℕ → ℕ → ℕ) → length (every_four each (record_bytes f)) ≡ record_count f
  counted_in each = ap (λ l. length (every_four each l)) records_in_lem ∙ counted each (record_count f) records records-length

  codes_count : length (codes_in f) ≡ record_count f
  codes_count = counted_in _

  as_long : length (codes_in f) ≡ length (amounts_in f)
  as_long = codes_count ∙ sym (counted_in _)

  none_is_wrong : (first_wrong 0 (codes_in f) (amounts_in f)).number ≡ 0
  none_is_wrong = ap (λ l. (first_wrong 0 (codes_of l) (amounts_of l)).number) records_in_lem ∙ none_wrong 0 records steps_in

  records_same : bytes_of (records_of (codes_in f) (amounts_in f)) ≡ records
  records_same =
      ap (λ l. bytes_of (records_of (codes_of l) (amounts_of l))) records_in_lem
      ∙ records_written (record_count f) records records-length (λ j. rw get_or-drop (b (ends + j))) steps_in

  -- what its codes and amounts mean is what its records mean
  pub taken_apart_reads_the_same : readings_by (codes_in f) (amounts_in f) ≡ readings_of f
  taken_apart_reads_the_same =
      sym (records_back 0 (codes_in f) (amounts_in f) none_is_wrong) ∙ ap records_in (records_same ∙ sym records_in_lem)

  -- its entries are those that are written
  module _ (z : ¬ OtherEntries f) where
    entries_fit_in : entries_for (table_in f) ≡ u16s_at f 12 (table_entries f)
    entries_fit_in = let w = good.whole in entries_in f (omega arith) good.few z

    entries_count : length (entries_for (table_in f)) ≡ table_entries f
    entries_count = ap length entries_fit_in ∙ length-u16s_at f 12 (table_entries f)

    header_same : header_of (length (entries_for (table_in f))) (length (codes_in f)) ≡ u16s_at f 0 6
    header_same =
        ap (λ k. header_of k (length (codes_in f))) entries_count
        ∙ ap (λ n. header_of (table_entries f) n) codes_count
        ∙ six
        (u16_at f 0)
        (u16_at f 2)
        (u16_at f 4)
        (u16_at f 6)
        (u16_at f 8)
        (u16_at f 10)
        (table_entries f)
        (record_count f)
        good.begins
        refl
        good.follow
        refl
        (at_most_22 (table_entries f) good.few)
        good.most

    rest_same : bytes_of (entries_for (table_in f)) ++ bytes_of (records_of (codes_in f) (amounts_in f)) ≡ drop 12 f
    rest_same =
        let w = good.whole in
        ap (λ t. bytes_of t ++ bytes_of (records_of (codes_in f) (amounts_in f))) entries_fit_in
        ∙ ap (λ t. bytes_of (u16s_at f 12 (table_entries f)) ++ t) records_same
        ∙ numbers_written f b 12 (table_entries f) (omega arith)

-- ---- the writer accepts it: its first three checks hold, and no record is wrong
pub accepting : (a b m r : ℕ) → a ≡ b → a ≤ m → r ≡ 0 → first (lists a b m r) ≡ 0
accepting a b m r p q z = holds→first (lists a b m r) (omega (arith, tests))

pub read_is_writable :
    (f : List ℕ) → Bytes f → (refusal_of f).number ≡ 0 → AllRead (readings_of f)
    → (first (writable (table_in f) (codes_in f) (amounts_in f)) ≡ 0) × ((first_wrong 0 (codes_in f) (amounts_in f)).number ≡ 0)
read_is_writable f b e all =
    let g = good f b e all in (
      accepting
          (length (codes_in f))
          (length (amounts_in f))
          (most_for (table_in f))
          (broken_rule (table_in f))
          (as_long f b e all)
          (subst (λ m. m ≤ most_for (table_in f)) (sym (codes_count f b e all)) (no_more_than_written f e))
          g.admitted,
      none_is_wrong f b e all,
    )

-- ---- it is what the writer makes of it, unless it has no entries, or twenty-two with four zeros
pub read_is_written_back :
    (f : List ℕ) → Bytes f → (refusal_of f).number ≡ 0 → AllRead (readings_of f) → ¬ OtherEntries f
    → file_of (table_in f) (codes_in f) (amounts_in f) ≡ f
read_is_written_back f b e all z =
    let w = (good f b e all).whole in
    assembled
    f
    (entries_for (table_in f))
    (records_of (codes_in f) (amounts_in f))
    (length (entries_for (table_in f)))
    (length (codes_in f))
    b
    (omega arith)
    (header_same f b e all z)
    (rest_same f b e all z)

-- ---- of no entries, and of twenty-two with four zeros, the writer makes eighteen
-- the second file is good and has eighteen entries, the first one's table and its record bytes; it is 36 bytes longer or 8 shorter, so
-- not the same
pub record InEighteen (f g : List ℕ) : Type 0 where
  pub good : (refusal_of g).number ≡ 0
  pub entries : table_entries g ≡ 18
  pub table : table_in g ≡ table_in f
  pub records : record_bytes g ≡ record_bytes f
  pub size : length g + 2 * table_entries f ≡ length f + 36
  pub other : ¬ (g ≡ f)

not_eighteen : (f : List ℕ) → OtherEntries f → ¬ (table_entries f ≡ 18)
not_eighteen f (inl z) e = omega arith
not_eighteen f (inr z) e = omega (arith, z.0)

pub others_are_written_in_eighteen :
    (f : List ℕ) → Bytes f → (refusal_of f).number ≡ 0 → AllRead (readings_of f) → OtherEntries f
    → InEighteen f (file_of (table_in f) (codes_in f) (amounts_in f))
others_are_written_in_eighteen f b e all z =
    let t = table_in f in
    let cs = codes_in f in
    let ns = amounts_in f in
    let w = (good f b e all).whole in
    let writes = (read_is_writable f b e all).0 in
    let eighteen = others_in_eighteen f z in
    let s = size (entries_for t) cs ns (as_long f b e all) in
    record {
      good = written_is_good t cs ns writes;
      entries = written_in_so_many t cs ns writes ∙ eighteen;
      table = written_reads_back_the_table t cs ns writes;
      records =
          record_bytes_lem (entries_for t) cs ns (as_long f b e all) (written_is_good t cs ns writes)
          ∙ records_same f b e all
          ∙ sym (records_in_lem f b e all);
      size = omega (arith, codes_count f b e all);
      other = λ same. not_eighteen f z (sym (ap table_entries same) ∙ written_in_so_many t cs ns writes ∙ eighteen);
    }

-- ---- a good file has as many records as its header says
pub as_many_records : (f : List ℕ) → (refusal_of f).number ≡ 0 → length (readings_of f) ≡ record_count f
as_many_records f e =
    let g = good_file f e in
    let w = g.whole in
    let ends = 12 + 2 * table_entries f in
    let d = length-drop ends f in
    ap (λ l. length (records_in l)) (records_from f e (omega arith) ∙ ap (λ i. drop i f) g.follow)
    ∙ counted record_of (record_count f) (drop ends f) (omega arith)
