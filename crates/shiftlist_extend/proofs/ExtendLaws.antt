-- Laws on extending a list: that what the walk lays are the entries of the definition, and the answer by the check that it stops at.
-- Assumes nothing.
use mathlib.Core.Path.{◌≡◌, refl, sym, ap, subst, ◌∙◌}
use mathlib.Core.Bool.{Bool, true, false, cond}
use mathlib.Core.List.{List, [], ◌∷◌}
use Prim.Native.Nat.{ℕ, ◌+◌, ◌*◌, ◌-◌, ◌/◌, ◌≤◌, ◌<◌}
use native.Mathlib.Omega.{arith}
use lib.Dec.{T, eqb}
use lib.ListN.{length}
use lib.Seq.{sets}
use borrow.Author.Tests.{eq-eqb, ne_eqb, le-leb, lt-leb}
use Rattle.checks.specs.Checks.{first}
use Rattle.checks.proofs.Tests.{passes}
use Rattle.limits.specs.declared.Table.{Table}
use Rattle.limits.specs.Rules.{broken_rule}
use Rattle.numbers.specs.Bytes.{u32_at, bytes_of}
use Rattle.phases.specs.Phases.{unfinished}
use Rattle.phases.proofs.PhaseLaws.{unfinished_in}
use Rattle.promises.proofs.Promises.{accepted_up_to_the_first_forbidden_step}
use Rattle.shift.specs.declared.State.{State}
use Rattle.shift.specs.Readings.{Reading}
use Rattle.shift.specs.Runs.{Outcome, run}
use Rattle.stepfile.specs.Records.{records_in}
use Rattle.stepfile.specs.Writing.{entries_for, most_for}
use Rattle.stepfile.proofs.EntryLaws.{most_between}
use Rattle.trace.specs.Traces.{Trace, trace_of}
use Rattle.trace.proofs.TraceLaws.{Sound, accepted_sound}
use Rattle.shiftlist.specs.declared.Shift.{Shift}
use Rattle.shiftlist.specs.declared.walk.Walk.{Walk}
use Rattle.shiftlist.specs.declared.Listed.{Listed}
use Rattle.shiftlist.specs.Shifts.{end_of, whole}
use Rattle.shiftlist.specs.Lists.{entries_of, header_of, listed_long, refused_by, fitting}
use Rattle.shiftlist.specs.Walks.{coded_in, holding, trace_in, in_hand, with, laid_by, size_with, laid_size, laid_in}
use Rattle.shiftlist.proofs.WalkLaws.{whole_on, shifts_on, whole_same, shifts_same, makes}
use Rattle.shiftlist.proofs.CodeLaws.{laid_as_listed}
use Rattle.shiftlist.proofs.LaidLaws as kernel
use Rattle.shiftlist_extend.specs.Extending.{laid_on, grounds, last_entry, laid, from, size, after_run, after_grounds, extended_of, list_after}
use Rattle.shiftlist_extend.specs.declared.Ground.{Ground}
use Rattle.shiftlist_extend.specs.declared.Ground.TheVariants.{Short, Header, Length, Broken, Unfit, NoRoom}
use Rattle.shiftlist_extend.specs.Resuming.{number_of, place_of, resumed_on}
use Rattle.shiftlist_extend.proofs.GroundLaws.{Grounded, grounded, its_end, its_age, in_place}

-- ---- the walk that is resumed
same_trace : (b : Bool) (s : State) (e : Shift) → unfinished s.phase ≡ b → trace_in (resumed_on s e) ≡ trace_of s
same_trace true s e u = rw u
same_trace false s e u = rw u

-- in the midst of a shift no shift is over
pub still_open : (p : ℕ) → T (unfinished p) → end_of p ≡ 0
still_open p u = let i = unfinished_in p u in rw (ne_eqb p 22 (λ e. omega arith), ne_eqb p 23 (λ e. omega arith))

held_entry : (s : State) (e : Shift) → unfinished s.phase ≡ true → e.end ≡ 0 → e.age ≡ s.clock - e.request_time → in_hand (resumed_on s e) ≡ e
held_entry s e u z a =
    let q = still_open s.phase (passes (unfinished s.phase) u) in
    ap (λ (w : Walk). in_hand w) (resumes s e u)
    ∙ ap (λ k. record { first = e.first; last = e.last; kind = e.kind; route = e.route; end = k; request_time = e.request_time; age = s.clock - e.request_time }) (q ∙ sym z)
    ∙ ap (λ k. record { first = e.first; last = e.last; kind = e.kind; route = e.route; end = e.end; request_time = e.request_time; age = k }) (sym a)
  where
    resumes :
        (s : State) (e : Shift) → unfinished s.phase ≡ true
        → resumed_on s e ≡ holding s.clock s.phase e.first e.last e.kind e.route e.request_time
    resumes s e u = rw u

-- ---- what it lays of accepted records
module _ (s : State) (e : Shift) (count : ℕ) (bytes : List ℕ) (h : Sound (trace_of s) (records_in bytes)) where
  abbrev w : Walk
  w = resumed_on s e

  abbrev rs : List Reading
  rs = records_in bytes

  trace : trace_in w ≡ trace_of s
  trace = same_trace (unfinished s.phase) s e refl

  sound : Sound (trace_in w) rs
  sound = subst (λ t. Sound t rs) (sym trace) h

  abbrev walks : Trace → List Shift
  walks t = with (unfinished t.phase) (whole_on (in_hand w) count t rs) (shifts_on count t rs)

  walks_so : laid_by w count (coded_in bytes) ≡ walks (trace_of s)
  walks_so = laid_as_listed w count bytes sound ∙ makes w count rs sound ∙ ap walks trace

  pub laid_same :
      (unfinished s.phase ≡ true → (e.end ≡ 0) × (e.age ≡ s.clock - e.request_time))
      → laid_by w count (coded_in bytes) ≡ laid_on (unfinished s.phase) e count s rs
  laid_same f = walks_so ∙ by (unfinished s.phase) refl
    where
      by : (b : Bool) → unfinished s.phase ≡ b → with b (whole_on (in_hand w) count (trace_of s) rs) (shifts_on count (trace_of s) rs) ≡ laid_on b e count s rs
      by true u =
          let k = f u in
          ap (λ (g : Shift). whole_on g count (trace_of s) rs ∷ shifts_on count (trace_of s) rs) (held_entry s e u k.0 k.1)
          ∙ ap (λ g. g ∷ shifts_on count (trace_of s) rs) (sym (whole_same e count s rs))
          ∙ ap (λ es. whole e count s rs ∷ es) (sym (shifts_same count s rs))
      by false u = sym (shifts_same count s rs)

-- ---- a refused record is one of the records
records_less : (l : List ℕ) → 4 * length (records_in l) ≤ length l
records_less [] = omega arith
records_less (a ∷ []) = omega arith
records_less (a ∷ b ∷ []) = omega arith
records_less (a ∷ b ∷ c ∷ []) = omega arith
records_less (a ∷ b ∷ c ∷ d ∷ l) = let h = records_less l in omega arith

pub index_small : (t : Table) (s : State) (l : List ℕ) → ¬ ((run t s (records_in l)).number ≡ 0) → (run t s (records_in l)).count ≤ length l
index_small t s l n =
    let h = ((accepted_up_to_the_first_forbidden_step t s (records_in l)).refused n).0 in
    let k = records_less l in
    omega (arith, h, k)

-- ---- a ground has a number
pub some_number : (ground : Ground) → ¬ (number_of ground ≡ 0)
some_number Short e = omega arith
some_number Header e = omega arith
some_number Length e = omega arith
some_number (Broken rule) e = omega arith
some_number Unfit e = omega arith
some_number NoRoom e = omega arith

-- ---- the answer, and the buffer after it
module _ (l : List ℕ) (held : ℕ) (s : State) (count : ℕ) (t : Table) (bytes : List ℕ) where
  abbrev Leaves : Listed → List ℕ → Type 0
  Leaves r b = (r ≡ extended_of l held s count t bytes) × (b ≡ list_after l held s count t bytes)

  abbrev n : ℕ
  n = size l held s count t bytes

  abbrev stored : List ℕ
  stored =
      sets (sets l 0 (bytes_of (header_of ((n - 8) / 16)))) (from l held s count t bytes) (bytes_of (entries_of (laid l held s count t bytes)))

  kept : (r : Listed) → ¬ (r.number ≡ 0) → r ≡ extended_of l held s count t bytes → Leaves r l
  kept r m e =
      let other = ne_eqb (extended_of l held s count t bytes).number 0 (λ z. m (ap (λ (q : Listed). q.number) e ∙ z)) in
      (e, ap (λ b. cond b stored l) (sym other))

  pub at_ground : (k : ℕ) → k ≡ first (grounds l held s count t bytes) → ¬ (k ≡ 0) → Leaves (refused_by k (cond (eqb k 4) (broken_rule t) 0) 0 0) l
  at_ground k e m =
      let by = refused_by k (cond (eqb k 4) (broken_rule t) 0) 0 0 in
      kept by m (ap (λ b. cond b (after_run l held s count t bytes (run t s (records_in bytes))) by) (sym (ne_eqb k 0 m)) ∙ ap (after_grounds l held s count t bytes) e)

  module _ (g : first (grounds l held s count t bytes) ≡ 0) where
    on : after_run l held s count t bytes (run t s (records_in bytes)) ≡ extended_of l held s count t bytes
    on = ap (after_grounds l held s count t bytes) (sym g)

    pub told : Grounded (length l) held (u32_at l 0) (last_entry l held s count t bytes) s count (length bytes / 4)
    told =
        grounded (length l) held (u32_at l 4) (u32_at l 0) (last_entry l held s count t bytes) s count (length bytes / 4)
        (most_for t) (broken_rule t) (most_between (length (entries_for t))).1 g

    pub at_run : (o : Outcome) → o ≡ run t s (records_in bytes) → ¬ (o.number ≡ 0) → Leaves (refused_by o.number 0 (count + o.count) o.excess) l
    at_run o e m =
        let by = refused_by o.number 0 (count + o.count) o.excess in
        kept by m (ap (λ b. cond b (fitting n (length l)) by) (sym (ne_eqb o.number 0 m)) ∙ ap (after_run l held s count t bytes) e ∙ on)

    module _ (z : (run t s (records_in bytes)).number ≡ 0) (c : s.clock ≤ 4294967295) where
      sound_new : Sound (trace_of s) (records_in bytes)
      sound_new = accepted_sound t s (records_in bytes) c z

      abbrev walk : Walk
      walk = resumed_on s (last_entry l held s count t bytes)

      is_laid : laid_by walk count (coded_in bytes) ≡ laid l held s count t bytes
      is_laid =
          laid_same s (last_entry l held s count t bytes) count bytes sound_new
          (λ u. (its_end (length l) held (u32_at l 0) (last_entry l held s count t bytes) s count (length bytes / 4) told u, its_age (length l) held (u32_at l 0) (last_entry l held s count t bytes) s count (length bytes / 4) told u))

      is_size : size_with l (place_of held s) walk count bytes ≡ n
      is_size = ap (λ es. place_of held s + 16 * length es) is_laid

      over : fitting n (length l) ≡ extended_of l held s count t bytes
      over =
          let o = run t s (records_in bytes) in
          ap (λ b. cond b (fitting n (length l)) (refused_by o.number 0 (count + o.count) o.excess)) (sym (eq-eqb o.number 0 z)) ∙ on

      not_laid : length l < size_with l (place_of held s) walk count bytes → Leaves (refused_by 15 0 0 0) l
      not_laid h =
          let small : length l < n = omega (arith, h, is_size) in
          kept (refused_by 15 0 0 0) (λ q. omega arith) (ap (λ b. cond b (listed_long n) (refused_by 15 0 0 0)) (sym (lt-leb n (length l) small)) ∙ over)

      was_laid :
          size_with l (place_of held s) walk count bytes ≤ length l
          → Leaves (listed_long (size_with l (place_of held s) walk count bytes)) (kernel.laid l (place_of held s) walk count bytes)
      was_laid h =
          let room : n ≤ length l = omega (arith, h, is_size) in
          let same : listed_long n ≡ extended_of l held s count t bytes = ap (λ b. cond b (listed_long n) (refused_by 15 0 0 0)) (sym (le-leb n (length l) room)) ∙ over in
          let zero-there = eq-eqb (extended_of l held s count t bytes).number 0 (ap (λ (q : Listed). q.number) (sym same)) in (
            ap listed_long is_size ∙ same,
            ap (λ k. sets (sets l 0 (bytes_of (header_of ((k - 8) / 16)))) (place_of held s) (bytes_of (entries_of (laid_by walk count (coded_in bytes))))) is_size
                ∙ ap (λ es. sets (sets l 0 (bytes_of (header_of ((n - 8) / 16)))) (place_of held s) (bytes_of (entries_of es))) is_laid
                ∙ ap (λ b. cond b stored l) (sym zero-there),
          )

      -- by what was laid
      pub by_size :
          (m : ℕ) (b : List ℕ) → m ≡ laid_size l (place_of held s) walk count bytes → b ≡ laid_in l (place_of held s) walk count bytes
          → (m ≡ 0 → Leaves (refused_by 15 0 0 0) b) × (¬ (m ≡ 0) → Leaves (listed_long m) b)
      by_size m b em eb =
          let e = last_entry l held s count t bytes in
          let place = in_place (length l) held (u32_at l 0) e s count (length bytes / 4) told in (
            λ q.
                let k = kernel.none_laid l (place_of held s) walk count bytes told.few place m em q in
                let a = not_laid k.0 in
                (a.0, eb ∙ sym k.1 ∙ a.1),
            λ q.
                let k = kernel.some_laid l (place_of held s) walk count bytes told.few place m em q in
                let a = was_laid k.0 in
                (ap listed_long k.1 ∙ a.0, eb ∙ k.2 ∙ a.1),
          )
