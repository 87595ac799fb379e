-- Earlier entries are untouched: where records are appended to a file and accepted, the list of the longer file has the entries of the
-- list before as they are, except that a last open one goes on with its first record, kind and request time; and that list stands in
-- the buffer that `extend` leaves.
-- Assumes nothing.
use mathlib.Core.Path.{◌≡◌, refl, sym, ap, subst, ◌∙◌}
use mathlib.Core.Bool.{Bool, true, false}
use mathlib.Core.List.{List, [], ◌∷◌, ◌++◌}
use Prim.Native.Nat.{ℕ, zero, suc, ◌<◌}
use native.Mathlib.Omega.{arith}
use lib.ListN.{length, get_or}
use contract.Lifetimes.{Lfts}
use denote.Triple.Entry.{Args}
use denote.Triple.Clauses.{AtExit}
use Rattle.checks.proofs.Tests.{passes}
use Rattle.limits.specs.declared.Table.{Table}
use Rattle.phases.specs.Phases.{unfinished}
use Rattle.shift.specs.declared.State.{State}
use Rattle.shift.specs.Readings.{Reading}
use Rattle.shift.specs.Answers.{led}
use Rattle.stepfile.specs.Records.{records_in}
use Rattle.verdict.specs.declared.Verdict.{Verdict}
use Rattle.shiftlist.specs.declared.Shift.{Shift}
use Rattle.shiftlist.specs.declared.Listed.{Listed}
use Rattle.shiftlist.specs.Shifts.{end_of, grown, unless_ended, whole, shifts_from}
use Rattle.shiftlist.specs.Lists.{shifts_of, no_shift}
use Rattle.shiftlist.specs.Walks.{in_hand, with}
use Rattle.shiftlist.specs.Entries.{Extends}
use Rattle.shiftlist.proofs.Extended.{Each, Ended}
use Rattle.shiftlist.proofs.Files.{ListStands, stands}
use Rattle.shiftlist_extend.specs.Extending.{laid_on, extended_of, list_after}
use Rattle.shiftlist_extend.proofs.ExtendLaws.{still_open}
use Rattle.shiftlist_extend.proofs.AppendedLaws.{Appended, further, verdict_is}
use Rattle.shiftlist_extend.proofs.EndLaws.{s, n, c, z, same_phase, es_are, all_ended}
use Rattle.shiftlist_extend.proofs.FreshLaws.{last, open_last, shifts_are}
use Rattle.shiftlist_extend.proofs.Fresh.{SameCall, equals_fresh}
use Rattle.shiftlist_extend.specs.contracts.extend as extend_call
use Rattle.shiftlist_extend.proofs.extend.Reads as extend_reads

-- ---- an entry that goes on
abbrev GoesOn : Shift → Shift → Type 0
GoesOn e e' = (e'.first ≡ e.first) × (e'.kind ≡ e.kind) × (e'.request_time ≡ e.request_time)

either_goes_on : (k : ℕ) (e x y : Shift) → GoesOn e x → GoesOn e y → GoesOn e (unless_ended k x y)
either_goes_on zero e x y g h = h
either_goes_on (suc k) e x y g h = g

whole_goes_on : (e : Shift) (i : ℕ) (s : State) (rs : List Reading) → GoesOn e (whole e i s rs)
whole_goes_on e i s [] = (refl, refl, refl)
whole_goes_on e i s (r ∷ rs) =
    let next = led s r in
    let e' = grown e i r next.clock next.phase in
    either_goes_on (end_of next.phase) e e' (whole e' (suc i) next rs) (refl, refl, refl) (whole_goes_on e' (suc i) next rs)

-- ---- the lists
from_nothing : (es : List Shift) → Extends no_shift [] es
from_nothing es = record {
  longer = omega arith;
  open_last = λ i l. absurd (omega arith);
  untouched = λ i l. absurd (omega arith);
  gone_on = λ i l. absurd (omega arith);
}

from_an_open_one : (e e' : Shift) (es : List Shift) → e.end ≡ 0 → GoesOn e e' → Extends no_shift (e ∷ []) (e' ∷ es)
from_an_open_one e e' es o g = record {
  longer = omega arith;
  open_last = λ i l q. omega arith;
  untouched = untouched;
  gone_on = gone_on;
}
  where
    untouched : (i : ℕ) → i < 1 → ¬ ((get_or (e ∷ []) i no_shift).end ≡ 0) → get_or (e' ∷ es) i no_shift ≡ get_or (e ∷ []) i no_shift
    untouched zero l q = absurd (q o)
    untouched (suc i) l q = absurd (omega arith)

    gone_on : (i : ℕ) → i < 1 → GoesOn (get_or (e ∷ []) i no_shift) (get_or (e' ∷ es) i no_shift)
    gone_on zero l = g
    gone_on (suc i) l = absurd (omega arith)

behind_one : (e : Shift) (old new : List Shift) → Ended e → Extends no_shift old new → Extends no_shift (e ∷ old) (e ∷ new)
behind_one e old new d x = record {
  longer = omega (arith, x.longer);
  open_last = open_last;
  untouched = untouched;
  gone_on = gone_on;
}
  where
    open_last : (i : ℕ) → i < suc (length old) → (get_or (e ∷ old) i no_shift).end ≡ 0 → suc i ≡ suc (length old)
    open_last zero l q = absurd (d q)
    open_last (suc i) l q = ap suc (x.open_last i (omega arith) q)

    untouched :
        (i : ℕ) → i < suc (length old) → ¬ ((get_or (e ∷ old) i no_shift).end ≡ 0)
        → get_or (e ∷ new) i no_shift ≡ get_or (e ∷ old) i no_shift
    untouched zero l q = refl
    untouched (suc i) l q = x.untouched i (omega arith) q

    gone_on : (i : ℕ) → i < suc (length old) → GoesOn (get_or (e ∷ old) i no_shift) (get_or (e ∷ new) i no_shift)
    gone_on zero l = (refl, refl, refl)
    gone_on (suc i) l = x.gone_on i (omega arith)

behind : (es old new : List Shift) → Each Ended es → Extends no_shift old new → Extends no_shift (es ++ old) (es ++ new)
behind [] old new h x = x
behind (e ∷ es) old new h x = behind_one e (es ++ old) (es ++ new) h.0 (behind es old new h.1 x)

-- ---- of a file to which records were appended
module _ (f g bytes : List ℕ) (a : Appended f g bytes) where
  abbrev end : State
  end = s f g bytes a

  abbrev records : ℕ
  records = n f g bytes a

  abbrev held : Shift
  held = in_hand (z f g bytes a)

  abbrev old_last : Shift
  old_last = last f g bytes [] a

  from_the_last : (b : Bool) → unfinished end.phase ≡ b → Extends no_shift (with b held []) (laid_on b old_last records end (records_in bytes))
  from_the_last true u =
      let phase = (z f g bytes a).phase in
      let o = still_open phase (passes (unfinished phase) (ap unfinished (same_phase f g bytes a) ∙ u)) in
      from_an_open_one held (whole old_last records end (records_in bytes)) (shifts_from records end (records_in bytes)) o
      (subst (λ e. GoesOn e (whole old_last records end (records_in bytes))) (open_last f g bytes [] a u)
      (whole_goes_on old_last records end (records_in bytes)))
  from_the_last false u = from_nothing (shifts_from records end (records_in bytes))

  pub goes_on : (further f g bytes a).number ≡ 0 → Extends no_shift (shifts_of f) (shifts_of g)
  goes_on accepted =
      let over = c f g bytes a in
      let u = unfinished end.phase in
      subst (λ es. Extends no_shift es (shifts_of g)) (sym (es_are f g bytes a))
      (subst (Extends no_shift (over ++ with u held [])) (sym (shifts_are f g bytes [] a accepted))
      (behind over (with u held []) (laid_on u old_last records end (records_in bytes)) (all_ended f g bytes a) (from_the_last u refl)))

-- ---- of an answer and a buffer that are extend's, for the list of f: the list of the longer file g stands there
pub record ExtendedStands (f g : List ℕ) (n : ℕ) (before after : List ℕ) : Type 0 where
  pub list : ListStands g n before after
  pub earlier : Extends no_shift (shifts_of f) (shifts_of g)

pub extended_stands :
    (f tail l : List ℕ) (held : ℕ) (end : State) (count : ℕ) (t : Table) (bytes g after : List ℕ) (r : Listed)
    → SameCall f tail l held end count t bytes g l → r ≡ extended_of l held end count t bytes → after ≡ list_after l held end count t bytes
    → r.number ≡ 0
    → ExtendedStands f g r.length l after
extended_stands f tail l held end count t bytes g after r h a b z =
    let e = equals_fresh f tail l held end count t bytes g l h in
    let there = stands g l after r (a ∙ e.0) (b ∙ e.1) z in
    let accepted = ap (λ (v : Verdict). v.number) (sym (verdict_is f g bytes h.appended)) ∙ there.accepted in
    record { list = there; earlier = goes_on f g bytes h.appended accepted }

-- ---- of a call of `extend`, whatever its contract allows
module _
    (κs : Lfts 2) (given : Args extend_call.signature κs) (r : Listed) (left : AtExit extend_call.ended κs)
    (call : extend_reads.Post κs given r left) where
  pub earlier_entries_are_untouched :
      (f tail g : List ℕ)
      → SameCall f tail given.0.now given.1.0 given.1.1.0 given.1.1.1.0 given.1.1.1.1.0 given.1.1.1.1.1.0.now g given.0.now
      → r.number ≡ 0
      → ExtendedStands f g r.length given.0.now left.0.now
  earlier_entries_are_untouched f tail g h =
      extended_stands f tail _ _ _ _ _ _ g left.0.now r h call.0 call.1
