-- The list of a file through calls of `build` and `fetch`, of whatever their contracts allow.
-- Assumes nothing.
use Rattle.std.proofs.Common.{◌≡◌, ℕ, ◌<◌, ◌≤◌, eqb, leb, List, length, get_or, take, drop, sym, ap, ◌∙◌, subst, arith, take_at, drop_at, eqb-true, leb-false, leb-true}
use borrow.Author.Tests.{eqb-false}
use contract.Lifetimes.{Lfts}
use denote.Triple.Entry.{Args}
use denote.Triple.Clauses.{AtExit}
use Rattle.checks.proofs.Tests.{case}
use Rattle.shift.specs.States.{start}
use Rattle.stepfile.specs.Files.{readings_of}
use Rattle.verdict.specs.Verdicts.{verdict_of}
use Rattle.shiftlist.specs.declared.Shift.{Shift}
use Rattle.shiftlist.specs.declared.Listed.{Listed}
use Rattle.shiftlist.specs.declared.Fetched.{Fetched}
use Rattle.shiftlist.specs.Lists.{list_of, shifts_of, size_for, built_of, buffer_after, no_shift, fetch_of}
use Rattle.shiftlist.specs.Entries.{Entries}
use Rattle.shiftlist.proofs.ListLaws.{list_long}
use Rattle.shiftlist.proofs.BuildLaws.{built}
use Rattle.shiftlist.proofs.FetchLaws.{fetched, past_count}
use Rattle.shiftlist.proofs.EntryLaws.{the_entries}
use Rattle.shiftlist.proofs.WidthLaws.{shifts_of_a_file, entries_of_a_file_fit}
use Rattle.shiftlist.specs.contracts.build as build_call
use Rattle.shiftlist.proofs.build.Reads as build_reads
use Rattle.shiftlist.specs.contracts.fetch as fetch_call
use Rattle.shiftlist.proofs.fetch.Reads as fetch_reads

-- ---- what is said
-- the file is accepted, the first n bytes of a buffer are the list of its shifts, n is its length, all other bytes are as before, and
-- each request of the file has exactly one entry, in order
pub record ListStands (f : List ℕ) (n : ℕ) (before after : List ℕ) : Type 0 where
  pub accepted : (verdict_of f).number ≡ 0
  pub list : take n after ≡ list_of (shifts_of f)
  pub size : length (take n after) ≡ n
  pub rest : drop n after ≡ drop n before
  pub entries : Entries start (readings_of f) (shifts_of f) no_shift

-- number 0 and the shift i below the count, 14 and zeros exactly from it on
pub record FetchedFrom (es : List Shift) (i : ℕ) (r : Fetched) : Type 0 where
  pub below : i < length es → r ≡ record { number = 0; shift = get_or es i no_shift }
  pub past : length es ≤ i → r ≡ record { number = 14; shift = no_shift }
  pub only_past : r.number ≡ 14 → length es ≤ i

-- ---- of an answer and a buffer that are build's
module _ (f before after : List ℕ) (r : Listed) (a : r ≡ built_of f (length before)) (b : after ≡ buffer_after f before) where
  abbrev es : List Shift
  es = shifts_of f

  -- an answer of 0 tells that the file is accepted, and that there is room
  judged_and_fits : (built_of f (length before)).number ≡ 0 → ((verdict_of f).number ≡ 0) × (size_for es ≤ length before)
  judged_and_fits e =
      case (eqb (verdict_of f).number 0)
      (λ p.
      case (leb (size_for es) (length before))
      (λ l. (eqb-true (verdict_of f).number 0 p, leb-true (size_for es) (length before) l))
      (λ l. let z = rw (p, l) at e in absurd (omega arith)))
      (λ p. let z = rw p at e in absurd (eqb-false (verdict_of f).number 0 p z))

  pub stands : r.number ≡ 0 → ListStands f r.length before after
  stands z =
      let h = judged_and_fits (ap (λ (q : Listed). q.number) (sym a) ∙ z) in
      let k = built f before h.0 h.1 in
      let buffer = b ∙ sym k.1 in
      let n = size_for es in
      let long = list_long es in
      let first = ap (take n) buffer ∙ take_at (list_of es) (drop n before) n long in
      subst (λ m. ListStands f m before after) (ap (λ (q : Listed). q.length) (k.0 ∙ sym a)) record {
        accepted = h.0;
        list = first;
        size = ap length first ∙ long;
        rest = ap (drop n) buffer ∙ drop_at (list_of es) (drop n before) n long;
        entries = the_entries start (readings_of f);
      }

-- ---- of what is fetched from the list of an accepted file
module _ (f : List ℕ) (z : (verdict_of f).number ≡ 0) (i : ℕ) where
  abbrev n : ℕ
  n = length (shifts_of f)

  few : n < 4294967296
  few = omega (arith, shifts_of_a_file f z)

  one_there : i < n → fetch_of (list_of (shifts_of f)) i ≡ record { number = 0; shift = get_or (shifts_of f) i no_shift }
  one_there h = fetched (shifts_of f) few i h (entries_of_a_file_fit f z i h)

  pub fetched_so : FetchedFrom (shifts_of f) i (fetch_of (list_of (shifts_of f)) i)
  fetched_so = record {
    below = one_there;
    past = past_count (shifts_of f) few i;
    only_past =
        λ e.
        case (leb n i) (leb-true n i)
        (λ l.
        let zero-there = ap (λ (q : Fetched). q.number) (one_there (leb-false n i l)) in
        absurd (omega (arith, zero-there, e)));
  }

-- ---- of a call of `build`, whatever its contract allows
module _
    (κs : Lfts 2) (given : Args build_call.signature κs) (r : Listed) (left : AtExit build_call.ended κs)
    (call : build_reads.Post κs given r left) where
  abbrev pub file : List ℕ
  file = given.0.now

  -- the buffer
  abbrev pub before : List ℕ
  before = given.1.0.now

  abbrev pub after : List ℕ
  after = left.1.0.now

  pub the_list_of_a_file : r.number ≡ 0 → ListStands file r.length before after
  the_list_of_a_file = stands file before after r call.0 call.1

  -- of any call of `fetch` on the bytes that it left
  pub fetched_from_what_was_built :
      (κs' : Lfts 1) (lent : Args fetch_call.signature κs') (s : Fetched) (left' : AtExit fetch_call.ended κs')
      → fetch_reads.Post κs' lent s left' → r.number ≡ 0 → lent.0.now ≡ take r.length after
      → FetchedFrom (shifts_of file) lent.1.0 s
  fetched_from_what_was_built κs' lent s left' said z e =
      let l = the_list_of_a_file z in
      subst (FetchedFrom (shifts_of file) lent.1.0)
      (ap (λ b. fetch_of b lent.1.0) (sym (e ∙ l.list)) ∙ sym said)
      (fetched_so file l.accepted lent.1.0)

-- ---- of a call of `fetch`
module _
    (κs : Lfts 1) (given : Args fetch_call.signature κs) (r : Fetched) (left : AtExit fetch_call.ended κs)
    (call : fetch_reads.Post κs given r left) where
  pub fetched_from_the_list_of_a_file :
      (f : List ℕ) → (verdict_of f).number ≡ 0 → given.0.now ≡ list_of (shifts_of f) → FetchedFrom (shifts_of f) given.1.0 r
  fetched_from_the_list_of_a_file f z e =
      subst (FetchedFrom (shifts_of f) given.1.0) (ap (λ b. fetch_of b given.1.0) (sym e) ∙ sym call) (fetched_so f z given.1.0)
