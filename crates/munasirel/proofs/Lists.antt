-- The list of shifts through the calls for C, of whatever their contracts allow: the list that is built, what is fetched from it, that the
-- extended one is the one built of the longer file, and that its earlier entries are untouched.
-- Assumes nothing.
use mathlib.Core.Path.{◌≡◌, sym, ap, subst, ◌∙◌}
use mathlib.Core.List.{List}
use Prim.Native.Nat.{ℕ}
use lib.ListN.{take}
use contract.Lifetimes.{Lfts}
use denote.Triple.Entry.{Args}
use denote.Triple.Clauses.{AtExit}
use Rattle.verdict.specs.Verdicts.{verdict_of}
use Rattle.shiftlist.specs.declared.Listed.{Listed}
use Rattle.shiftlist.specs.declared.Fetched.{Fetched}
use Rattle.shiftlist.specs.Lists.{list_of, shifts_of, fetch_of}
use Rattle.shiftlist.proofs.Files.{ListStands, FetchedFrom, stands, fetched_so}
use Rattle.shiftlist_extend.proofs.Fresh.{SameCall, equals_fresh}
use Rattle.shiftlist_extend.proofs.Earlier.{ExtendedStands, extended_stands}
use Rattle.munasirel.specs.contracts.munasirel_list as list_call
use Rattle.munasirel.proofs.munasirel_list.Reads as list_reads
use Rattle.munasirel.specs.contracts.munasirel_fetch as fetch_call
use Rattle.munasirel.proofs.munasirel_fetch.Reads as fetch_reads
use Rattle.munasirel.specs.contracts.munasirel_extend as extend_call
use Rattle.munasirel.proofs.munasirel_extend.Reads as extend_reads

module _
    (κs : Lfts 2) (given : Args list_call.signature κs) (r : Listed) (left : AtExit list_call.ended κs)
    (built : list_reads.Post κs given r left) where
  pub munasirel_the_list_of_a_file : r.number ≡ 0 → ListStands given.0.now r.length given.1.0.now left.1.0.now
  munasirel_the_list_of_a_file = stands given.0.now given.1.0.now left.1.0.now r built.0 built.1

  pub munasirel_extended_equals_fresh :
      (κs' : Lfts 2) (given' : Args extend_call.signature κs') (r' : Listed) (left' : AtExit extend_call.ended κs') → extend_reads.Post κs' given' r' left'
      → (f tail : List ℕ)
      → SameCall f tail given'.0.now given'.1.0 given'.1.1.0 given'.1.1.1.0 given'.1.1.1.1.0 given'.1.1.1.1.1.0.now given.0.now given.1.0.now
      → (r' ≡ r) × (left'.0.now ≡ left.1.0.now)
  munasirel_extended_equals_fresh κs' given' r' left' extended f tail h =
      let e = equals_fresh f tail _ _ _ _ _ _ _ _ h in
      (extended.0 ∙ e.0 ∙ sym built.0, extended.1 ∙ e.1 ∙ sym built.1)

  -- of any call of `munasirel_fetch` on the bytes that it left
  pub munasirel_fetched_from_what_was_built :
      (κs' : Lfts 1) (lent : Args fetch_call.signature κs') (s : Fetched) (left' : AtExit fetch_call.ended κs')
      → fetch_reads.Post κs' lent s left' → r.number ≡ 0 → lent.0.now ≡ take r.length left.1.0.now
      → FetchedFrom (shifts_of given.0.now) lent.1.0 s
  munasirel_fetched_from_what_was_built κs' lent s left' said z e =
      let l = munasirel_the_list_of_a_file z in
      subst (FetchedFrom (shifts_of given.0.now) lent.1.0)
      (ap (λ b. fetch_of b lent.1.0) (sym (e ∙ l.list)) ∙ sym said)
      (fetched_so given.0.now l.accepted lent.1.0)

pub munasirel_earlier_entries_are_untouched :
    (κs : Lfts 2) (given : Args extend_call.signature κs) (r : Listed) (left : AtExit extend_call.ended κs) → extend_reads.Post κs given r left
    → (f tail g : List ℕ)
    → SameCall f tail given.0.now given.1.0 given.1.1.0 given.1.1.1.0 given.1.1.1.1.0 given.1.1.1.1.1.0.now g given.0.now
    → r.number ≡ 0
    → ExtendedStands f g r.length given.0.now left.0.now
munasirel_earlier_entries_are_untouched κs given r left call f tail g h =
    extended_stands f tail _ _ _ _ _ _ g left.0.now r h call.0 call.1

pub munasirel_fetched_from_the_list_of_a_file :
    (κs : Lfts 1) (given : Args fetch_call.signature κs) (r : Fetched) (left : AtExit fetch_call.ended κs) → fetch_reads.Post κs given r left
    → (f : List ℕ) → (verdict_of f).number ≡ 0 → given.0.now ≡ list_of (shifts_of f) → FetchedFrom (shifts_of f) given.1.0 r
munasirel_fetched_from_the_list_of_a_file κs given r left call f z e =
    subst (FetchedFrom (shifts_of f) given.1.0) (ap (λ b. fetch_of b given.1.0) (sym e) ∙ sym call) (fetched_so f z given.1.0)
