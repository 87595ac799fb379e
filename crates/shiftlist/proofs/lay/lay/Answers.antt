-- `lay` meets its contract: too many records, no such place, no room; or the entries, and the header.
-- Assumes nothing.
use Rattle.std.proofs.Common.{ℕ, ◌-◌, ◌/◌, List, [], length, sym, ap, ◌∙◌, arith, leb, leb-false, leb-true}
use lib.Seq.{sets}
use Rattle.numbers.specs.Bytes.{bytes_of, halves}
use Rattle.phases.specs.Phases.{unfinished}
use Rattle.shiftlist.specs.Lists.{entries_of, header_of}
use Rattle.shiftlist.specs.Walks.{Coded, coded_all, laid_by, size_with, unless_0}
use Rattle.shiftlist.proofs.StoreLaws.{apart}
use Rattle.shiftlist.proofs.LayLaws.{same_coded, at_most_one, laid_at_most, as_many}
use Rattle.shiftlist.proofs.LaidLaws.{too_many, no_place, no_room, all_laid, header_stored, same_size, some_size}
use Rattle.shiftlist.proofs.lay.lay.Goals as goal

pub returns-then-index-records-gt16372 : goal.returns-then-index-records-gt16372
returns-then-index-records-gt16372 c =
    let a = c.args in
    let both = too_many a.list.now a.from a.walk a.index a.records.now (omega (arith, c.as_chunks.ensures.front_len, c.if-index-records-gt16372.true)) in record {
      value = ap unless_0 both.0;
      list_after = both.1;
    }

pub returns-then-from-lt8 : goal.returns-then-from-lt8
returns-then-from-lt8 c =
    let a = c.args in
    let both = no_place a.list.now a.from a.walk a.index a.records.now c.then-from-lt8.either in record {
      value = ap unless_0 both.0;
      list_after = both.1;
    }

pub returns-then-not-has_room : goal.returns-then-not-has_room
returns-then-not-has_room c =
    let a = c.args in
    let l = a.list.now in
    let bytes = a.records.now in
    let size = same_size l a.from a.walk a.index bytes c.as_chunks.result.0.now c.as_chunks.ensures.front in
    let fits = sym (ap (λ n. leb n (length l)) size) ∙ sym c.has_room.ensures ∙ c.if-not-has_room.true in
    let both = no_room l a.from a.walk a.index bytes (leb-false (size_with l a.from a.walk a.index bytes) (length l) fits) in record {
      value = ap unless_0 both.0;
      list_after = both.1;
    }

pub overflow_cast-size : goal.overflow_cast-size
overflow_cast-size c =
    let a = c.args in
    let rs = c.as_chunks.result.0.now in
    let many = laid_at_most a.walk a.index (coded_all rs) in
    omega (arith, c.lay-size.ensures.value, many, at_most_one (unfinished a.walk.phase), as_many rs)

pub returns : goal.returns
returns c =
    let a = c.args in
    let l = a.list.now in
    let bytes = a.records.now in
    let rs = c.as_chunks.result.0.now in
    let front = c.as_chunks.ensures.front in
    let size = same_size l a.from a.walk a.index bytes rs front in
    let n = c.lay-size.ensures.value ∙ size in
    let fits = sym (ap (λ k. leb k (length l)) size) ∙ sym c.has_room.ensures ∙ c.if-not-has_room.false in
    let room = leb-true (size_with l a.from a.walk a.index bytes) (length l) fits in
    let e = all_laid l a.from a.walk a.index bytes (omega (arith, c.as_chunks.ensures.front_len)) (omega arith, omega arith) room in
    let entries = λ (cs : List Coded). bytes_of (entries_of (laid_by a.walk a.index cs)) in
    let header = λ (k : ℕ). bytes_of (header_of ((k - 8) / 16)) in
    let k = c.lay-size.result in record {
      value = some_size k _ (n ∙ e.0) (omega (arith, n));
      list_after = c.put32-2.ensures
          ∙ ap (λ o. sets o 4 (bytes_of (halves 8 []))) c.put32.ensures
          ∙ header_stored c.lay-size.new.list ((k - 8) / 16)
          ∙ ap (λ o. sets o 0 (header k)) c.lay-size.ensures.list_after
          ∙ sym (apart l 0 (header k) a.from (entries (coded_all rs)) (omega arith))
          ∙ ap (λ m. sets (sets l 0 (header m)) a.from (entries (coded_all rs))) n
          ∙ ap (λ cs. sets (sets l 0 (header (size_with l a.from a.walk a.index bytes))) a.from (entries cs)) (same_coded bytes rs front)
          ∙ e.1;
    }
