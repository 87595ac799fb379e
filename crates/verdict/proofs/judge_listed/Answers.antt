-- `judge_listed` meets its contract: before every record the loop stands where those accepted so far lead, and keeps its state's deadline.
-- Assumes nothing.
use Prim.Native.Nat.{◌+◌, ◌/◌, ◌≤◌, ◌<◌}
use mathlib.Core.Path.{◌≡◌, refl, sym, ap, subst, ◌∙◌}
use native.Mathlib.Omega.{arith}
use lib.ListN.{length}
use Rattle.std.specs.Prelude.{Ok}
use Rattle.checks.specs.Checks.{first}
use Rattle.checks.proofs.Checks.{first→holds}
use Rattle.limits.specs.Limits.{table_of}
use Rattle.phases.specs.Phases.{order_of, device_limit}
use Rattle.shift.specs.declared.State.{State}
use Rattle.shift.specs.declared.Answer.{Answer}
use Rattle.shift.specs.Steps.{allowed, ticked, effect}
use Rattle.shift.specs.Answers.{refusal, listed}
use Rattle.shift.proofs.ListedLaws.{led_to}
use Rattle.deadlines.specs.Deadlines.{phase_end_of, deadline, late_by, over_by}
use Rattle.deadlines.proofs.DeadlineLaws.{fits, keeps}
use Rattle.verdict.specs.Verdicts.{of_run}
use Rattle.verdict.proofs.Judging.{all_left}
use Rattle.verdict.proofs.Standing.{Stands, Kept, kept, stops, leads, no_step_stops, as_step, tick_leads, tick_stops, ends}
use Rattle.verdict.proofs.judge_listed.Goals as goal
use Rattle.verdict.proofs.judge_listed.Goals.{then-enters, else-enters}

pub loop-index-init : goal.loop-index-init
loop-index-init c =
    let a = c.args in
    let pre = c.requires in
    let t = a.table in
    let s = a.begin in
    let end = c.phase_end-phase_end in
    let device = c.device_limit-device in (
      record {
        within = omega arith;
        whole = omega arith;
        over = omega arith;
        most = omega arith;
        in_list = (first→holds 0 (listed s) tt pre.0).0;
        rest = sym (all_left t a.records.now s);
      },
      kept t s end.result device.result t.channel_dl c.deadline-deadline.result
          (end.ensures ∙ ap (λ es. phase_end_of (table_of es) s) pre.1)
          (device.ensures ∙ ap (λ es. device_limit (table_of es) (order_of s.phase)) pre.1)
          refl
          c.deadline-deadline.ensures,
      pre.1,
    )

pub returns-in_default : goal.returns-in_default
returns-in_default c =
    let l = c.loop-index in
    let a = c.args in
    let read = c.record_at-reading in
    c.answered.ensures
    ∙ ap (λ k. of_run (record { count = l.index; number = k; excess = 0; state = l.state })) (c.refusal.ensures ∙ ap refusal c.in_default.is)
    ∙ no_step_stops a.table a.records.now a.begin _ l.state l.index l.invariant.0 c.loop-index-test.true c.in_default.field-0 (sym read.ensures ∙ c.in_default.is)

pub returns-then-number-ne0 : goal.returns-then-number-ne0
returns-then-number-ne0 c =
    let l = c.loop-index in
    let a = c.args in
    let t = a.table in
    let more = c.loop-index-test.true in
    let is_x = sym c.record_at-reading.ensures ∙ c.in-Ok.is in
    let answer = c.judged_step-answer in
    let here = answer.ensures ∙ as_step t a.records.now a.begin _ l.state l.index l.invariant.0 more c.in-Ok.x is_x in
    c.answered-then-number-ne0.ensures
    ∙ stops t a.records.now a.begin _ l.state l.index l.invariant.0 more answer.result here c.if-number-ne0.true

pub loop-index-preserved-in_default-x : goal.loop-index-preserved-in_default-x
loop-index-preserved-in_default-x c =
    let l = c.loop-index in
    let a = c.args in
    let t = a.table in
    let s = l.state in
    let same = l.invariant.2 in
    let more = c.loop-index-test.true in
    let x = c.in-Ok.x in
    let is_x = sym c.record_at-reading.ensures ∙ c.in-Ok.is in
    let answer = c.judged_step-answer in
    let next = answer.result.state in
    let none = c.if-number-ne0.false in
    let here = answer.ensures ∙ as_step t a.records.now a.begin _ s l.index l.invariant.0 more x is_x in
    let to : next ≡ effect s x =
    ap (λ (q : Answer). q.state) answer.ensures
    ∙ led_to (first (allowed t s x)) _ (effect s x) s (sym (ap (λ (q : Answer). q.number) answer.ensures) ∙ none)
    in
    let enters = c.enters.ensures in
    let end : c.if-enters.phase_end ≡ phase_end_of t next =
    elim c.if-enters.branch [
      | then-enters w ↦ w.phase_end-is ∙ w.phase_end-phase_end-then-enters.ensures ∙ ap (λ es. phase_end_of (table_of es) next) same
      | else-enters w ↦ w.phase_end-is ∙ l.invariant.1.end_is ∙ sym (ap (phase_end_of t) to ∙ (keeps t s x (sym enters ∙ w.if-enters.false)).1)
    ]
    in
    let device : c.if-enters.device ≡ device_limit t (order_of next.phase) =
    elim c.if-enters.branch [
      | then-enters w ↦ w.device-is ∙ w.device_limit-device-then-enters.ensures ∙ ap (λ es. device_limit (table_of es) (order_of next.phase)) same
      | else-enters w ↦
          w.device-is ∙ l.invariant.1.device_is
          ∙ sym (ap (λ p. device_limit t (order_of p)) (ap (λ (q : State). q.phase) to ∙ (keeps t s x (sym enters ∙ w.if-enters.false)).0))
    ]
    in (
      leads t a.records.now a.begin _ s l.index l.invariant.0 more answer.result here none,
      kept t next c.if-enters.phase_end c.if-enters.device t.channel_dl c.deadline-deadline-in_default-x.result end device refl c.deadline-deadline-in_default-x.ensures,
      same,
    )

pub returns-then-deadline-clock : goal.returns-then-deadline-clock
returns-then-deadline-clock c =
    let l = c.loop-index in
    let a = c.args in
    let t = a.table in
    let s = l.state in
    let more = c.loop-index-test.true in
    let n = c.in-Tick.amount in
    let is-tick =
    sym c.record_at-reading.ensures ∙ c.in-Ok.is ∙ ap Ok c.in-Tick.is
    in
    let later = c.later-clock in
    let late : deadline t s < s.clock + n =
    subst (λ k. deadline t s < k) later.ensures (subst (λ d. d < later.result) l.invariant.1.last_is c.if-deadline-clock.true)
    in
    let number =
    c.late-number.ensures
    ∙ ap (λ d. late_by d t.channel_dl s later.result) l.invariant.1.device_is
    ∙ ap (late_by (device_limit t (order_of s.phase)) t.channel_dl s) later.ensures
    in
    let k = c.late-number.result in
    let over : c.over-over.result ≡ over_by (phase_end_of t s) (device_limit t (order_of s.phase)) t.channel_dl s (s.clock + n) k =
    c.over-over.ensures
    ∙ ap (λ e. over_by e l.device t.channel_dl s later.result k) l.invariant.1.end_is
    ∙ ap (λ d. over_by (phase_end_of t s) d t.channel_dl s later.result k) l.invariant.1.device_is
    ∙ ap (λ m. over_by (phase_end_of t s) (device_limit t (order_of s.phase)) t.channel_dl s m k) later.ensures
    in
    c.answered-then-deadline-clock.ensures
    ∙ ap (λ e. of_run (record { count = l.index; number = k; excess = e; state = s })) over
    ∙ ap (λ m. of_run (record {
      count = l.index;
      number = m;
      excess = over_by (phase_end_of t s) (device_limit t (order_of s.phase)) t.channel_dl s (s.clock + n) m;
      state = s;
    })) number
    ∙ tick_stops t a.records.now a.begin _ s l.index l.invariant.0 more n is-tick late

pub clocked-state-requires : goal.clocked-state-requires
clocked-state-requires c =
    let l = c.loop-index in
    let most = fits c.args.table l.state in
    let last = l.invariant.1.last_is in
    let until = c.if-deadline-clock.false in
    omega arith

pub loop-index-preserved : goal.loop-index-preserved
loop-index-preserved c =
    let l = c.loop-index in
    let a = c.args in
    let t = a.table in
    let s = l.state in
    let k = l.invariant.1 in
    let more = c.loop-index-test.true in
    let n = c.in-Tick.amount in
    let is-tick =
    sym c.record_at-reading.ensures ∙ c.in-Ok.is ∙ ap Ok c.in-Tick.is
    in
    let later = c.later-clock in
    let until : s.clock + n ≤ deadline t s =
    subst (λ d. s.clock + n ≤ d) k.last_is (subst (λ m. m ≤ l.deadline) later.ensures c.if-deadline-clock.false)
    in
    let to : c.clocked-state.result ≡ ticked n s = c.clocked-state.ensures n later.ensures in
    let on = tick_leads t a.records.now a.begin _ s l.index l.invariant.0 more n is-tick until in
    let unmoved : Kept t (ticked n s) l.phase_end l.device l.deadline =
    record { end_is = k.end_is; device_is = k.device_is; last_is = k.last_is }
    in (
      subst (λ (q : State). Stands t a.records.now a.begin (length a.records.now / 4) q (l.index + 1)) (sym to) on,
      subst (λ (q : State). Kept t q l.phase_end l.device l.deadline) (sym to) unmoved,
      l.invariant.2,
    )

pub returns : goal.returns
returns c =
    let l = c.loop-index in
    let a = c.args in
    let within = l.invariant.0.within in
    let all : length a.records.now / 4 ≡ l.index = omega arith in
    c.answered-2.ensures
    ∙ ap (λ k. of_run (record { count = k; number = 0; excess = 0; state = l.state })) all
    ∙ ends a.table a.records.now a.begin _ l.state l.index l.invariant.0 c.loop-index-test.false

pub overflow_mul-index : goal.overflow_mul-index
overflow_mul-index c = let w = c.loop-index.invariant.0.whole in omega arith

pub record_at-reading-requires : goal.record_at-reading-requires
record_at-reading-requires c = let w = c.loop-index.invariant.0.whole in omega arith

pub enum_known-reading : goal.enum_known-reading
enum_known-reading c = c.in-Ok.in-Ok-own.keys1

pub enum_known-x : goal.enum_known-x
enum_known-x c = c.in-Tick.in-Tick-own.keys1
