-- Laws on the grounds that refuse extending and on the new records, against the words of specs/Refusals.antt, and on what stores keep.
-- Assumes nothing.
use Rattle.std.proofs.Common.{Some}
use mathlib.Core.Path.{◌≡◌, refl, sym, ap, subst, ◌∙◌}
use mathlib.Core.Bool.{Bool, true, false, not, ◌&&◌, ◌||◌}
use mathlib.Core.Logic.{inl, inr, ⊎_elim}
use mathlib.Core.List.{List, [], ◌∷◌}
use Prim.Native.Nat.{ℕ, suc, ◌+◌, ◌*◌, ◌-◌, ◌/◌, ◌≤◌, ◌<◌}
use native.Mathlib.Omega.{arith}
use lib.Dec.{T, leb, ltb, eqb, leb→le, le→leb, ltb→lt, lt→ltb, eqb→eq, T_not}
use lib.ListN.{length, get_or, set}
use lib.Seq.{sets, get_or-set_other}
use Rattle.checks.specs.Checks.{first}
use Rattle.checks.specs.Conditions.{Condition, FirstOf}
use Rattle.checks.proofs.ConditionLaws.{first_of}
use Rattle.checks.proofs.Tests.{tests, case, passes, left, right, both, either, one_of, eq→eqb, ne→neqb, neqb→ne}
use Rattle.limits.specs.declared.Table.{Table}
use Rattle.limits.specs.Rules.{broken_rule}
use Rattle.limits.proofs.Refusals.{admitted, not_admitted}
use Rattle.numbers.specs.Bytes.{u32_at}
use Rattle.phases.specs.Phases.{unfinished}
use Rattle.phases.proofs.PhaseLaws.{unfinished_in}
use Rattle.promises.specs.Refusals.{record_refusals}
use Rattle.promises.specs.HowFar.{HowFar}
use Rattle.promises.specs.Verdicts.{at, Exact}
use Rattle.promises.proofs.Promises.{accepted_up_to_the_first_forbidden_step}
use Rattle.promises.proofs.OneStep.{refused_in_the_document's_words}
use Rattle.promises.proofs.ExcessLaws.{how_far}
use Rattle.shift.specs.declared.State.{State}
use Rattle.shift.specs.Readings.{Reading}
use Rattle.shift.specs.Answers.{reading, guard, excess}
use Rattle.shift.specs.Runs.{Outcome, run}
use Rattle.shift.proofs.Refusals.{reads}
use Rattle.stepfile.specs.Records.{records_in}
use Rattle.stepfile.specs.Refusals.{bits16}
use Rattle.stepfile.proofs.RecordLaws.{record_in}
use Rattle.stepfile.proofs.WriteRefusals.{too_many, not_too_many}
use Rattle.shiftlist.specs.declared.Shift.{Shift}
use Rattle.shiftlist.specs.Lists.{shift_at}
use Rattle.shiftlist.proofs.Refusals.{same_32}
use Rattle.shiftlist_extend.specs.Extending.{is_open, is_over, fits, grounds}
use Rattle.shiftlist_extend.specs.Refusals.{Midst, ItsEntry, OverEntry, Fit, extend_refusals, BytesHold, RecordsAnswer}

-- ---- in the midst of a shift
pub midst : (s : State) → unfinished s.phase ≡ true → Midst s
midst s u = unfinished_in s.phase (passes (unfinished s.phase) u)

pub outside : (s : State) → unfinished s.phase ≡ false → ¬ Midst s
outside s u m =
    let p = s.phase in
    subst T u (both (leb 1 p) (leb p 21) (le→leb 1 p m.0) (le→leb p 21 m.1))

-- ---- state and list fit
module _ (l : List ℕ) (held : ℕ) (s : State) (count : ℕ) where
  abbrev place : ℕ
  place = held - 16

  abbrev e : Shift
  e = shift_at l place

  abbrev shifts : ℕ
  shifts = u32_at l 0

  -- the four tests of an open entry
  abbrev a : Bool
  a = eqb e.end 0

  abbrev b : Bool
  b = eqb (e.last + 1) count

  abbrev c : Bool
  c = eqb e.request_time s.request_time

  abbrev d : Bool
  d = eqb e.age (s.clock - s.request_time)

  its_entry : T (is_open e s count) → ItsEntry l place s count
  its_entry t =
      let x = right a (b && (c && d)) t in
      let y = right b (c && d) x in
      record {
        end = eqb→eq e.end 0 (left a (b && (c && d)) t);
        last = eqb→eq (e.last + 1) count (left b (c && d) x);
        time = sym (same_32 l (place + 8)) ∙ eqb→eq e.request_time s.request_time (left c d y);
        age = sym (same_32 l (place + 12)) ∙ eqb→eq e.age (s.clock - s.request_time) (right c d y);
      }

  entry_passes : ItsEntry l place s count → T (is_open e s count)
  entry_passes x =
      both a (b && (c && d)) (eq→eqb e.end 0 x.end)
      (both b (c && d) (eq→eqb (e.last + 1) count x.last)
      (both c d
      (eq→eqb e.request_time s.request_time (same_32 l (place + 8) ∙ x.time))
      (eq→eqb e.age (s.clock - s.request_time) (same_32 l (place + 12) ∙ x.age))))

  over_entry : T (is_over e count) → OverEntry l place count
  over_entry t = record {
    end = neqb→ne e.end 0 (left (not a) (ltb e.last count) t);
    last = ltb→lt e.last count (right (not a) (ltb e.last count) t);
  }

  over_passes : OverEntry l place count → T (is_over e count)
  over_passes x = both (not a) (ltb e.last count) (ne→neqb e.end 0 x.end) (lt→ltb e.last count x.last)

  they_fit : T (fits shifts e s count) → Fit l held s count
  they_fit t =
      let same = same_32 l 0 in
      case (unfinished s.phase)
      (λ u.
      let q : T (leb 1 shifts && is_open e s count) = rw u at t in
      let one = leb→le 1 shifts (left (leb 1 shifts) (is_open e s count) q) in
      record {
        in_midst = λ _. (omega arith, its_entry (right (leb 1 shifts) (is_open e s count) q));
        outside = λ n. absurd (n (midst s u));
      })
      (λ u.
      let q : T (eqb shifts 0 || is_over e count) = rw u at t in
      record {
        in_midst = λ m. absurd (outside s u m);
        outside = λ _.
            ⊎_elim (λ z. inl (sym same ∙ eqb→eq shifts 0 z)) (λ o. inr (over_entry o)) (either (eqb shifts 0) (is_over e count) q);
      })

  fit_passes : Fit l held s count → T (fits shifts e s count)
  fit_passes f =
      let same = same_32 l 0 in
      case (unfinished s.phase)
      (λ u.
      let x = f.in_midst (midst s u) in
      let one = x.0 in
      rw u (both (leb 1 shifts) (is_open e s count) (le→leb 1 shifts (omega arith)) (entry_passes x.1)))
      (λ u.
      rw u
      (one_of (eqb shifts 0) (is_over e count)
      (⊎_elim (λ z. inl (eq→eqb shifts 0 (same ∙ z))) (λ o. inr (over_passes o)) (f.outside (outside s u)))))

  -- ---- the grounds
  pub grounds_in_order : (t : Table) (bytes : List ℕ) → FirstOf (extend_refusals l held s count t bytes) (first (grounds l held s count t bytes))
  grounds_in_order t bytes =
      first_of (grounds l held s count t bytes) (extend_refusals l held s count t bytes) (
        omega (arith, tests),
        (
          omega (arith, tests),
          (
            omega (arith, tests),
            (
              omega (arith, tests),
              (
                (
                  λ x. too_many (Some t) (count + length bytes / 4) (omega (arith, tests)),
                  (λ x. not_too_many (Some t) (count + length bytes / 4) (omega (arith, tests)), refl),
                ),
                (
                  omega (arith, tests),
                  (
                    (λ x. not_admitted t (neqb→ne (broken_rule t) 0 x), (λ x n. n (admitted t (eqb→eq (broken_rule t) 0 x)), refl)),
                    ((λ x f. T_not (fits shifts e s count) x (fit_passes f), (λ x n. n (they_fit x), refl)), tt),
                  ),
                ),
              ),
            ),
          ),
        ),
      )

-- ---- the new records
as_many : (l : List ℕ) → length (records_in l) ≡ length l / 4
as_many [] = refl
as_many (a ∷ []) = refl
as_many (a ∷ b ∷ []) = refl
as_many (a ∷ b ∷ c ∷ []) = refl
as_many (a ∷ b ∷ c ∷ d ∷ l) = let h = as_many l in omega arith

-- the first of such conditions gives a number from 5 to 13
abbrev from5to13 : List Condition → Bool
from5to13 [] = true
from5to13 (w ∷ ws) = (leb 5 w.number && leb w.number 13) && from5to13 ws

numbered_so : (ws : List Condition) (n : ℕ) → T (from5to13 ws) → FirstOf ws n → ¬ (n ≡ 0) → (5 ≤ n) × (n ≤ 13)
numbered_so [] n t f z = absurd (z f)
numbered_so (w ∷ ws) n t f z =
    let low = leb 5 w.number in
    let high = leb w.number 13 in
    ⊎_elim
    (λ x.
    let q = left (low && high) (from5to13 ws) t in
    let e = x.1 in
    let a = leb→le 5 w.number (left low high q) in
    let b = leb→le w.number 13 (right low high q) in
    (omega arith, omega arith))
    (λ x. numbered_so ws n (right (low && high) (from5to13 ws) t) x.1 z)
    f

module _ (bytes : List ℕ) where
  abbrev code : ℕ → ℕ
  code i = get_or bytes (4 * i) 0

  abbrev middle : ℕ → ℕ
  middle i = get_or bytes (4 * i + 1) 0

  abbrev amount : ℕ → ℕ
  amount i = bits16 bytes (4 * i + 2)

  record_there : (i : ℕ) → i < length (records_in bytes) → at (records_in bytes) i ≡ reading (code i) (middle i) (amount i)
  record_there i h =
      let e : 4 * i + 3 ≡ 4 * i + 2 + 1 = omega arith in
      record_in bytes i h ∙ ap (λ k. reading (code i) (middle i) (get_or bytes (4 * i + 2) 0 + 256 * get_or bytes k 0)) e

  bytes_hold : BytesHold bytes (records_in bytes)
  bytes_hold = record {
    count = as_many bytes;
    each = λ i h. rw (record_there i h) (reads (middle i) (amount i) (code i));
  }

  module _ (t : Table) (s : State) where
    abbrev o : Outcome
    o = run t s (records_in bytes)

    exact : Exact t s (records_in bytes) o
    exact = accepted_up_to_the_first_forbidden_step t s (records_in bytes)

    module _ (n : ¬ (o.number ≡ 0)) where
      abbrev i : ℕ
      i = o.count

      abbrev r : Reading
      r = at (records_in bytes) i

      abbrev FarBy : ℕ → ℕ → Type 0
      FarBy = HowFar t o.state (code i) (amount i)

      same : r ≡ reading (code i) (middle i) (amount i)
      same = record_there i (exact.refused n).0

      refused_there : FirstOf (record_refusals t o.state (code i) (middle i) (amount i)) o.number
      refused_there =
          subst (FirstOf (record_refusals t o.state (code i) (middle i) (amount i)))
          (ap (guard t o.state) (sym same) ∙ (exact.refused n).1)
          (refused_in_the_document's_words t o.state (code i) (middle i) (amount i))

      over_there : FarBy o.number o.excess
      over_there =
          let by : Reading → ℕ = λ q. guard t o.state q in
          let far =
          subst (λ (q : Reading). FarBy (by q) (excess t o.state q (by q))) (sym same)
          (how_far t o.state (code i) (middle i) (amount i) (reading (code i) (middle i) (amount i)) (reads (middle i) (amount i) (code i)))
          in
          subst (FarBy o.number) (sym exact.over) (subst (λ (k : ℕ). FarBy k (excess t o.state r k)) (exact.refused n).1 far)

    pub records_answer : RecordsAnswer t s bytes (records_in bytes) o
    records_answer = record {
      held = bytes_hold;
      exact = exact;
      refused = λ n.
          let m = numbered_so (record_refusals t o.state (code o.count) (middle o.count) (amount o.count)) o.number tt (refused_there n) n in
          (refused_there n, over_there n, m.0, m.1);
    }

-- ---- what stores keep
pub before_stores : (l : List ℕ) (i : ℕ) (vs : List ℕ) (j : ℕ) → j < i → get_or (sets l i vs) j 0 ≡ get_or l j 0
before_stores l i [] j h = refl
before_stores l i (v ∷ vs) j h =
    before_stores (set l i v) (suc i) vs j (omega arith) ∙ get_or-set_other l i j v 0 (λ e. omega arith)

pub behind_stores : (l : List ℕ) (i : ℕ) (vs : List ℕ) (j : ℕ) → i + length vs ≤ j → get_or (sets l i vs) j 0 ≡ get_or l j 0
behind_stores l i [] j h = refl
behind_stores l i (v ∷ vs) j h =
    behind_stores (set l i v) (suc i) vs j (omega arith) ∙ get_or-set_other l i j v 0 (λ e. omega arith)
