-- Where the judge's loop stands: what holds before every record, that a refused one ends it and an accepted one leads on.
-- Assumes nothing.
use mathlib.Core.Path.{◌≡◌, refl, sym, ap, ◌∙◌}
use mathlib.Core.List.{List}
use Prim.Native.Nat.{ℕ, ◌+◌, ◌*◌, ◌≤◌, ◌<◌}
use native.Mathlib.Omega.{arith}
use lib.ListN.{length}
use Rattle.std.specs.Prelude.{Ok, Err}
use Rattle.checks.specs.Checks.{first}
use Rattle.checks.proofs.Checks.{Holds}
use Rattle.limits.specs.declared.Table.{Table}
use Rattle.phases.specs.Phases.{order_of, device_limit}
use Rattle.shift.specs.declared.State.{State}
use Rattle.shift.specs.declared.Answer.{Answer}
use Rattle.shift.specs.declared.Step.{Step}
use Rattle.shift.specs.declared.Step.TheVariants.{Tick}
use Rattle.shift.specs.Readings.{Reading}
use Rattle.shift.specs.declared.Misread.{Misread}
use Rattle.shift.specs.declared.Misread.TheVariants.{WrongCode, WrongAmount}
use Rattle.shift.specs.Steps.{allowed, ticked}
use Rattle.shift.specs.Excess.{excess_by}
use Rattle.shift.specs.Answers.{refusal, listed, checks_of, refused as refused_with, answer_to}
use Rattle.shift.specs.Runs.{run}
use Rattle.shift.proofs.AnswerLaws.{refuses, accepts}
use Rattle.shift.proofs.ListedLaws.{judged_as_listed, accepted_listed}
use Rattle.deadlines.specs.Deadlines.{phase_end_of, deadline_by, deadline, late_by, over_by}
use Rattle.deadlines.proofs.DeadlineLaws.{in_time, too_late, so_far_over, late_is_refused}
use Rattle.stepfile.specs.Records.{records_in}
use Rattle.stepfile.proofs.RecordLaws.{record_at}
use Rattle.verdict.specs.Verdicts.{of_run}
use Rattle.verdict.proofs.Judging.{left, accepted, refused, ended}

-- what is kept of a state, and its end
pub record Kept (t : Table) (s : State) (end device last : ℕ) : Type 0 where
  pub end_is : end ≡ phase_end_of t s
  pub device_is : device ≡ device_limit t (order_of s.phase)
  pub last_is : last ≡ deadline t s

pub kept :
    (t : Table) (s : State) (end device channel last : ℕ) → end ≡ phase_end_of t s → device ≡ device_limit t (order_of s.phase)
    → channel ≡ t.channel_dl → last ≡ deadline_by end device channel s → Kept t s end device last
kept t s end device channel last e d c l =
    record {
      end_is = e;
      device_is = d;
      last_is = l
          ∙ ap (λ k. deadline_by k device channel s) e
          ∙ ap (λ k. deadline_by (phase_end_of t s) k channel s) d
          ∙ ap (λ k. deadline_by (phase_end_of t s) (device_limit t (order_of s.phase)) k s) c;
    }

-- before the record of this index, those before it accepted
pub record Stands (t : Table) (bytes : List ℕ) (begin : State) (count : ℕ) (s : State) (index : ℕ) : Type 0 where
  pub within : index ≤ count
  pub whole : 4 * count ≤ length bytes
  pub over : length bytes ≤ 4 * count + 3
  pub most : count ≤ 4611686018427387904
  pub in_list : Holds (listed s)
  pub rest : run t begin (records_in bytes) ≡ left t bytes s index (4 * index)

module _ (t : Table) (bytes : List ℕ) (begin : State) (count : ℕ) (s : State) (index : ℕ) (h : Stands t bytes begin count s index) where
  -- the answer to what was read in a state that is listed
  abbrev answer_to_lem : Reading → Answer
  answer_to_lem r = answer_to t s r (first (checks_of (allowed t s) r))

  -- what the next record means, and the answer to it
  abbrev record_is : Reading
  record_is = record_at bytes (4 * index)

  abbrev answer_is : Answer
  answer_is = answer_to_lem record_is

  module _ (more : index < count) where
    -- it is refused, and the loop is left
    pub stops :
        (a : Answer) → a ≡ answer_is → ¬ (a.number ≡ 0)
        → of_run (record { count = index; number = a.number; excess = a.excess; state = s }) ≡ of_run (run t begin (records_in bytes))
    stops a e n =
        let w = h.whole in
        let here = e ∙ judged_as_listed t s record_is h.in_list in
        sym (ap of_run (h.rest ∙ refused t bytes s index (4 * index) (omega arith) a here n))

    -- it is accepted
    pub leads : (a : Answer) → a ≡ answer_is → a.number ≡ 0 → Stands t bytes begin count a.state (index + 1)
    leads a e z =
        let w = h.whole in
        let here = e ∙ judged_as_listed t s record_is h.in_list in
        let next : 4 * index + 4 ≡ 4 * (index + 1) = omega arith in
        record {
          within = omega arith;
          whole = h.whole;
          over = h.over;
          most = h.most;
          in_list = accepted_listed t s record_is a here z h.in_list;
          rest = h.rest
              ∙ accepted t bytes s index (4 * index) (omega arith) a here z
              ∙ ap (left t bytes a.state (index + 1)) next;
        }

    -- what is no step is refused by its own number
    pub no_step_stops :
        (m : Misread) → record_is ≡ Err m
        → of_run (record { count = index; number = refusal (Err m); excess = 0; state = s }) ≡ of_run (run t begin (records_in bytes))
    no_step_stops m e = stops (refused_with (refusal (Err m)) 0 s) (own m ∙ sym (ap answer_to_lem e)) (no_zero m)
      where
        own : (m : Misread) → refused_with (refusal (Err m)) 0 s ≡ answer_to_lem (Err m)
        own WrongCode = refl
        own WrongAmount = refl

        no_zero : (m : Misread) → ¬ (refusal (Err m) ≡ 0)
        no_zero WrongCode z = omega arith
        no_zero WrongAmount z = omega arith

    -- a step is judged
    module _ (x : Step) (e : record_is ≡ Ok x) where
      pub as_step : answer_to t s (Ok x) (first (allowed t s x)) ≡ answer_is
      as_step = sym (ap answer_to_lem e)

    -- a tick up to the deadline is accepted, and one past it is refused
    module _ (n : ℕ) (e : record_is ≡ Ok (Tick n)) where
      pub tick_leads : s.clock + n ≤ deadline t s → Stands t bytes begin count (ticked n s) (index + 1)
      tick_leads l =
          let a : Answer = record { number = 0; rule = 0; excess = 0; state = ticked n s } in
          leads a (accepts (first (allowed t s (Tick n))) _ (ticked n s) s (in_time t s (s.clock + n) l) ∙ as_step (Tick n) e) refl

      pub tick_stops :
          deadline t s < s.clock + n
          → (let now = s.clock + n in
          let device = device_limit t (order_of s.phase) in
          let k = late_by device t.channel_dl s now in
          of_run (record { count = index; number = k; excess = over_by (phase_end_of t s) device t.channel_dl s now k; state = s })
          ≡ of_run (run t begin (records_in bytes)))
      tick_stops l =
          let now = s.clock + n in
          let device = device_limit t (order_of s.phase) in
          let k = late_by device t.channel_dl s now in
          let late = late_is_refused device t.channel_dl s now in
          ap (λ over. of_run (record { count = index; number = k; excess = over; state = s })) (so_far_over t s now l)
          ∙ stops (refused_with k (excess_by t s 0 now k) s)
          (refuses k (excess_by t s 0 now k) (ticked n s) s late ∙ ap (answer_to t s (Ok (Tick n))) (too_late t s now l) ∙ as_step (Tick n) e)
          late

  -- there is no record left
  pub ends : count ≤ index → of_run (record { count = index; number = 0; excess = 0; state = s }) ≡ of_run (run t begin (records_in bytes))
  ends none = let o = h.over in sym (ap of_run (h.rest ∙ ended t bytes s index (4 * index) (omega arith)))
