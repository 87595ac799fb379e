-- Laws on building a list: what an accepted file tells of its records, and the answer by the check that it stops at.
-- Assumes nothing.
use Rattle.std.proofs.Common.{◌≡◌, ℕ, zero, suc, ◌+◌, ◌-◌, ◌/◌, ◌<◌, ◌≤◌, cond, List, [], ◌++◌, length, drop, sym, refl, ap, ◌∙◌, subst, arith, length-drop, eq-eqb, ne_eqb, le-leb}
use lib.Seq.{sets}
use borrow.Author.Tests.{lt-leb}
use Rattle.numbers.specs.Bytes.{bytes_of}
use Rattle.numbers.proofs.StoreLaws.{sets-append, at_start}
use Rattle.shift.specs.States.{start}
use Rattle.shift.specs.Runs.{Outcome, run}
use Rattle.stepfile.specs.Records.{records_in}
use Rattle.stepfile.specs.Files.{Refusal, table_in, refusal_of, from_offset, readings_of, record_offset}
use Rattle.stepfile.proofs.WholeLaws.{good_file}
use Rattle.trace.specs.Traces.{trace_of}
use Rattle.trace.proofs.TraceLaws.{Sound, accepted_sound}
use Rattle.verdict.specs.declared.Verdict.{Verdict}
use Rattle.verdict.specs.Verdicts.{reading, verdict_of}
use Rattle.verdict.proofs.Judging.{read_verdict}
use Rattle.shiftlist.specs.declared.Shift.{Shift}
use Rattle.shiftlist.specs.declared.walk.Walk.{Walk}
use Rattle.shiftlist.specs.declared.Listed.{Listed}
use Rattle.shiftlist.specs.Lists.{entries_of, header_of, list_of, shifts_of, size_for, listed_long, refused_by, fitting, after_judge, built_of, buffer_after}
use Rattle.shiftlist.specs.Walks.{coded_in, holding, idle, laid_by, size_with}
use Rattle.shiftlist.proofs.WalkLaws.{listed, shifts_same}
use Rattle.shiftlist.proofs.Extended.{from_rest}
use Rattle.shiftlist.proofs.CodeLaws.{laid_as_listed}
use Rattle.shiftlist.proofs.ListLaws.{list_long}
use Rattle.shiftlist.proofs.LaidLaws.{laid}

-- ---- an accepted file
was_read : (k : ℕ) (r : Refusal) (o : Outcome) → r.number ≡ k → (reading k r o).number ≡ 0 → k ≡ 0
was_read zero r o e z = refl
was_read (suc k) r o e z = absurd (omega arith)

-- nothing in hand, at the start
abbrev pub begin : Walk
begin = idle (trace_of start)

pub at_zero :
    (w : Walk)
    → (w.clock ≡ 0) × ((w.phase ≡ 0) × ((w.first ≡ 0) × ((w.last ≡ 0) × ((w.kind ≡ 0) × ((w.route ≡ 0) × (w.request_time ≡ 0))))))
    → w ≡ begin
at_zero w e =
    let fields : holding w.clock w.phase w.first w.last w.kind w.route w.request_time ≡ begin =
    rw (e.0, e.1.0, e.1.1.0, e.1.1.1.0, e.1.1.1.1.0, e.1.1.1.1.1.0, e.1.1.1.1.1.1)
    in
    fields

module _ (f : List ℕ) (z : (verdict_of f).number ≡ 0) where
  pub read : (refusal_of f).number ≡ 0
  read = was_read (refusal_of f).number (refusal_of f) (run (table_in f) start (readings_of f)) refl z

  pub same_records : records_in (from_offset f) ≡ readings_of f
  same_records = ap (λ b. records_in (cond b (from_offset f) [])) (sym (eq-eqb (refusal_of f).number 0 read))

  pub all_accepted : (run (table_in f) start (readings_of f)).number ≡ 0
  all_accepted = ap (λ (v : Verdict). v.number) (read_verdict f read) ∙ z

  pub file_sound : Sound (trace_of start) (readings_of f)
  file_sound = accepted_sound (table_in f) start (readings_of f) (omega arith) all_accepted

  records_sound : Sound (trace_of start) (records_in (from_offset f))
  records_sound = subst (λ rs. Sound (trace_of start) rs) (sym same_records) file_sound

  pub few_records : 0 + length (from_offset f) / 4 ≤ 16372
  few_records =
      let g = good_file f read in
      let long : 12 ≤ length f = omega (arith, g.whole) in
      let there : from_offset f ≡ drop (record_offset f) f = rw (le-leb 12 (length f) long) in
      let size = ap length there ∙ length-drop (record_offset f) f in
      omega (arith, size, g.whole, g.follow, g.most)

  pub laid_is_the_list : laid_by begin 0 (coded_in (from_offset f)) ≡ shifts_of f
  laid_is_the_list =
      laid_as_listed begin 0 (from_offset f) records_sound
      ∙ ap (listed begin 0) same_records
      ∙ from_rest 0 (trace_of start) (readings_of f) refl file_sound
      ∙ sym (shifts_same 0 start (readings_of f))

  pub size_laid : (out : List ℕ) → size_with out 8 begin 0 (from_offset f) ≡ size_for (shifts_of f)
  size_laid out = ap size_for laid_is_the_list

-- ---- a whole list in a buffer
pub list_stored :
    (out : List ℕ) (n : ℕ) (es : List Shift) → n ≡ size_for es → n ≤ length out
    → sets (sets out 0 (bytes_of (header_of ((n - 8) / 16)))) 8 (bytes_of (entries_of es)) ≡ list_of es ++ drop (size_for es) out
list_stored out n es e h =
    let m : (n - 8) / 16 ≡ length es = omega (arith, e) in
    ap (λ k. sets (sets out 0 (bytes_of (header_of k))) 8 (bytes_of (entries_of es))) m
    ∙ sym (sets-append out 0 (bytes_of (header_of (length es))) (bytes_of (entries_of es)))
    ∙ at_start out (list_of es) (size_for es) (list_long es) (omega (arith, e, h))

-- ---- the answer, and the buffer after it
module _ (f out : List ℕ) where
  abbrev Leaves : Listed → List ℕ → Type 0
  Leaves r b = (r ≡ built_of f (length out)) × (b ≡ buffer_after f out)

  kept : (r : Listed) → ¬ (r.number ≡ 0) → r ≡ built_of f (length out) → Leaves r out
  kept r n e =
      let other = ne_eqb (built_of f (length out)).number 0 (λ z. n (ap (λ (q : Listed). q.number) e ∙ z)) in
      (e, ap (λ b. cond b (list_of (shifts_of f) ++ drop (size_for (shifts_of f)) out) out) (sym other))

  pub at_judge : (v : Verdict) → v ≡ verdict_of f → ¬ (v.number ≡ 0) → Leaves (refused_by v.number v.rule v.index v.excess) out
  at_judge v e n =
      let rest = fitting (size_for (shifts_of f)) (length out) in
      let by = refused_by v.number v.rule v.index v.excess in
      kept by n (ap (λ b. cond b rest by) (sym (ne_eqb v.number 0 n)) ∙ ap (λ q. after_judge q rest) e)

  module _ (z : (verdict_of f).number ≡ 0) where
    on : fitting (size_for (shifts_of f)) (length out) ≡ built_of f (length out)
    on =
        let v = verdict_of f in
        let by = refused_by v.number v.rule v.index v.excess in
        ap (λ b. cond b (fitting (size_for (shifts_of f)) (length out)) by) (sym (eq-eqb v.number 0 z))

    pub at_room : length out < size_for (shifts_of f) → Leaves (refused_by 15 0 0 0) out
    at_room h =
        let n = size_for (shifts_of f) in
        kept (refused_by 15 0 0 0) (λ q. omega arith) (ap (λ b. cond b (listed_long n) (refused_by 15 0 0 0)) (sym (lt-leb n (length out) h)) ∙ on)

    pub built :
        size_for (shifts_of f) ≤ length out → Leaves (listed_long (size_for (shifts_of f))) (list_of (shifts_of f) ++ drop (size_for (shifts_of f)) out)
    built h =
        let n = size_for (shifts_of f) in
        let same : listed_long n ≡ built_of f (length out) = ap (λ b. cond b (listed_long n) (refused_by 15 0 0 0)) (sym (le-leb n (length out) h)) ∙ on in
        let zero-there = eq-eqb (built_of f (length out)).number 0 (ap (λ (q : Listed). q.number) (sym same)) in
        (same, ap (λ b. cond b (list_of (shifts_of f) ++ drop n out) out) (sym zero-there))

    -- by the size that was laid
    pub not_laid : length out < size_with out 8 begin 0 (from_offset f) → Leaves (refused_by 15 0 0 0) out
    not_laid h = at_room (omega (arith, h, size_laid f z out))

    pub was_laid :
        size_with out 8 begin 0 (from_offset f) ≤ length out
        → Leaves (listed_long (size_with out 8 begin 0 (from_offset f))) (laid out 8 begin 0 (from_offset f))
    was_laid h =
        let n = size_with out 8 begin 0 (from_offset f) in
        let e = size_laid f z out in
        let k = built (omega (arith, h, e)) in (
          ap listed_long e ∙ k.0,
          ap (λ es. sets (sets out 0 (bytes_of (header_of ((n - 8) / 16)))) 8 (bytes_of (entries_of es))) (laid_is_the_list f z)
              ∙ list_stored out n (shifts_of f) e h
              ∙ k.1,
        )
