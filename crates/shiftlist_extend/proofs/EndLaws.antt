-- Where an accepted file ends: the entries that are over, the walk there, and the last entry of the list.
-- Assumes nothing.
use mathlib.Core.Path.{◌≡◌, refl, sym, ap, subst, ◌∙◌}
use mathlib.Core.Bool.{true, false}
use mathlib.Core.List.{List, [], ◌∷◌, ◌++◌, append-nil}
use Prim.Native.Nat.{ℕ, zero, suc, ◌+◌, ◌-◌, ◌≤◌, ◌<◌}
use native.Mathlib.Omega.{arith}
use lib.Dec.{T}
use lib.ListN.{length, get_or, length-append}
use lib.Seq.{get_or_at}
use borrow.Author.Tests.{eq-eqb, ne_eqb, lt-ltb}
use Rattle.checks.proofs.Tests.{passes}
use Rattle.phases.specs.Phases.{unfinished}
use Rattle.shift.specs.declared.State.{State}
use Rattle.shift.specs.Readings.{Reading}
use Rattle.shift.specs.States.{start}
use Rattle.stepfile.specs.Files.{readings_of}
use Rattle.trace.specs.Traces.{Trace, trace_of}
use Rattle.trace.proofs.TraceLaws.{Sound}
use Rattle.shiftlist.specs.declared.Shift.{Shift}
use Rattle.shiftlist.specs.declared.walk.Walk.{Walk}
use Rattle.shiftlist.specs.Lists.{shifts_of, no_shift}
use Rattle.shiftlist.specs.Walks.{in_hand, with}
use Rattle.shiftlist.proofs.WalkLaws.{closed, at_end, shifts_same}
use Rattle.shiftlist.proofs.Extended.{Each, Ended, shape}
use Rattle.shiftlist.proofs.BuildLaws.{begin, file_sound}
use Rattle.shiftlist.proofs.EntryLaws.{the_entries}
use Rattle.shiftlist.proofs.WidthLaws.{no_more_than_records}
use Rattle.shiftlist_extend.specs.Extending.{is_open, is_over}
use Rattle.shiftlist_extend.proofs.ExtendLaws.{still_open}
use Rattle.shiftlist_extend.proofs.RequestTimes.{Keeps, keeps_to_the_end, last_there}
use Rattle.shiftlist_extend.proofs.AppendedLaws.{Appended, state, count, count_is, state_is}

pub each_at : (P : Shift → Type 0) (es : List Shift) → Each P es → (i : ℕ) → i < length es → P (get_or es i no_shift)
each_at P [] h i l = absurd (omega arith)
each_at P (e ∷ es) h zero l = h.0
each_at P (e ∷ es) h (suc i) l = each_at P es h.1 i (omega arith)

module _ (f g bytes : List ℕ) (a : Appended f g bytes) where
  abbrev pub es : List Shift
  es = shifts_of f

  abbrev pub rs : List Reading
  rs = readings_of f

  abbrev pub s : State
  s = state f g bytes a

  abbrev pub n : ℕ
  n = count f g bytes a

  sound : Sound (trace_of start) rs
  sound = file_sound f a.accepted

  -- what is ended, and the walk there
  abbrev pub c : List Shift
  c = closed begin 0 rs

  abbrev pub z : Walk
  z = at_end begin 0 rs

  pub keeps : Keeps s z
  keeps =
      subst (λ (q : State). Keeps q z) (sym (state_is f g bytes a))
      (keeps_to_the_end start begin 0 rs sound record { trace = refl; time = λ u. refl })

  pub same_phase : z.phase ≡ s.phase
  same_phase = ap (λ (t : Trace). t.phase) keeps.trace

  pub es_are : es ≡ c ++ with (unfinished s.phase) (in_hand z) []
  es_are =
      shifts_same 0 start rs
      ∙ (shape 0 (trace_of start) rs refl sound).0
      ∙ ap (λ p. c ++ with (unfinished p) (in_hand z) []) same_phase

  pub many : length es ≤ n
  many = omega (arith, no_more_than_records 0 start rs, count_is f g bytes a)

  -- ---- the last entry
  module _ (u : unfinished s.phase ≡ true) where
    open_one : es ≡ c ++ (in_hand z ∷ [])
    open_one = es_are ∙ ap (λ b. c ++ with b (in_hand z) []) u

    pub one_more : length es ≡ suc (length c)
    one_more = let l = length-append c (in_hand z ∷ []) in ap length open_one ∙ omega arith

    pub last_is : get_or es (length c) no_shift ≡ in_hand z
    last_is = ap (λ l. get_or l (length c) no_shift) open_one ∙ get_or_at c (in_hand z) [] no_shift (length c) refl

    -- there is a record
    ends : (rs : List Reading) → unfinished (at_end begin 0 rs).phase ≡ true → (at_end begin 0 rs).last + 1 ≡ 0 + length rs
    ends [] h = absurd (subst T (sym h) tt)
    ends (r ∷ rs) h = last_there begin 0 r rs

    pub is_open_lem : is_open (in_hand z) s n ≡ true
    is_open_lem =
        let time = keeps.time u in
        let clock = ap (λ (t : Trace). t.clock) keeps.trace in
        let over = open_end in
        let last = ends rs (ap unfinished same_phase ∙ u) in
        rw (
          eq-eqb (in_hand z).end 0 over,
          eq-eqb (z.last + 1) n (omega (arith, last, count_is f g bytes a)),
          eq-eqb z.request_time s.request_time time,
          eq-eqb (z.clock - z.request_time) (s.clock - s.request_time) (omega (arith, time, clock)),
        )
      where
        open_end : (in_hand z).end ≡ 0
        open_end = still_open z.phase (passes (unfinished z.phase) (ap unfinished same_phase ∙ u))

  pub all_ended : Each Ended c
  all_ended = (shape 0 (trace_of start) rs refl sound).1

  pub is_over_lem : unfinished s.phase ≡ false → (m : ℕ) → length es ≡ suc m → is_over (get_or es m no_shift) n ≡ true
  is_over_lem u m e =
      let all = es_are ∙ ap (λ b. c ++ with b (in_hand z) []) u ∙ append-nil c in
      let ended = each_at Ended es (subst (Each Ended) (sym all) all_ended) m (omega arith) in
      let within = ((the_entries start rs).each m (omega arith)).within in
      rw (ne_eqb (get_or es m no_shift).end 0 ended, lt-ltb (get_or es m no_shift).last n (omega (arith, within, count_is f g bytes a)))
