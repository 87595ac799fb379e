-- Demand 3, second half, in laws: in an unfinished shift the phase is one of its kind's, and each phase is entered and left in time.
-- Assumes nothing.
use mathlib.Core.Path.{◌≡◌}
use mathlib.Core.Bool.{cond}
use mathlib.Core.List.{List, [], ◌∷◌}
use Prim.Native.Nat.{ℕ, ◌+◌, ◌≤◌, ◌<◌}
use native.Mathlib.Omega.{arith}
use lib.Dec.{eqb}
use lib.ListN.{get_or}
use borrow.Author.Tests.{ne_eqb}
use Rattle.std.specs.Prelude.{Ok}
use Rattle.checks.specs.Checks.{numbered}
use Rattle.checks.proofs.Tests.{tests}
use Rattle.checks.proofs.Checks.{Holds, first→holds}
use Rattle.checks.proofs.Ranges.{from}
use Rattle.limits.specs.declared.Table.{Table}
use Rattle.limits.specs.Rules.{rules, broken_rule}
use Rattle.phases.specs.Phases.{order_of, next_of, clutch_of, phase_limit, latest_take, engine}
use Rattle.shift.specs.declared.State.{State}
use Rattle.shift.specs.Readings.{Reading}
use Rattle.shift.specs.declared.Step.{Step}
use Rattle.shift.specs.declared.Step.TheVariants.{FromNeutral, GearToGear, ToNeutral, Deliver, DeviceGood, DeviceFailed, EngineWaits, Take, AskClutch, RaiseError, Finish, Tick, Reset}
use Rattle.shift.specs.Steps.{effect}
use Rattle.shift.specs.Answers.{checks, guard, led}
use Rattle.shift.specs.Runs.{run}
use Rattle.shift.proofs.StepLaws.{shifting}
use Rattle.promises.specs.Kinds.{Kind, from_neutral, gear_to_gear, to_neutral, sum_of, first_phase, last_phase, kind_after, last_kind}
use Rattle.promises.proofs.Runs.{each_step, went_on}

-- the longest time from the request to the entry of each phase
abbrev pub spent : Table → ℕ → ℕ
spent t p =
    let sync = t.sync_dl in
    let zero = t.zero_dl in
    let opened = t.open_clutch_dl in
    let set = t.set_gear_dl in
    let released = t.release_dl in
    let free = t.zero_ex + released in
    get_or (0
    ∷ 0
    ∷ sync
    ∷ t.sync_ex
    ∷ (sync + opened)
    ∷ (sync + opened + set)
    ∷ 0
    ∷ zero
    ∷ t.zero_ex
    ∷ (zero + opened)
    ∷ free
    ∷ (free + sync)
    ∷ (free + t.sync_ex)
    ∷ (free + sync + opened)
    ∷ (zero + opened + released)
    ∷ (free + sync + opened + set)
    ∷ (zero + opened + released + set)
    ∷ 0
    ∷ zero
    ∷ t.zero_ex
    ∷ (zero + opened)
    ∷ (zero + opened + released)
    ∷ []) p 0

-- of a phase p of the kind k, with the clock c, the phase time e and the request time r
pub record Timed (t : Table) (k : Kind) (p c e r : ℕ) : Type 0 where
  pub first : first_phase k ≤ p
  pub last : p ≤ last_phase k
  pub asked : r ≤ e
  pub since : e ≤ c
  pub entered : e ≤ r + spent t p
  pub within : c ≤ e + phase_limit t (order_of p)

abbrev pub InTime : Table → Kind → State → Type 0
InTime t k s = 1 ≤ s.phase → s.phase ≤ 21 → Timed t k s.phase s.clock s.phase_time s.request_time

-- ---- the phase table: the next phase is one of the kind's, and is entered in time
next_of_kind :
    (k : Kind) (p : ℕ) → first_phase k ≤ p → p < 1 + last_phase k → next_of p ≤ 21
    → (first_phase k ≤ next_of p) × (next_of p ≤ last_phase k)
next_of_kind from_neutral = from _ 1 5 (omega arith)
next_of_kind gear_to_gear = from _ 6 11 (omega arith)
next_of_kind to_neutral = from _ 17 5 (omega arith)

clutch_of_kind :
    (k : Kind) (p : ℕ) → first_phase k ≤ p → p < 1 + last_phase k → order_of p ≤ 2
    → (first_phase k ≤ clutch_of p) × (clutch_of p ≤ last_phase k)
clutch_of_kind from_neutral = from _ 1 5 (omega arith)
clutch_of_kind gear_to_gear = from _ 6 11 (omega arith)
clutch_of_kind to_neutral = from _ 17 5 (omega arith)

module _ (t : Table) (c e r : ℕ) where
  taken :
      (p : ℕ) → 1 ≤ p → p < 22
      → (e ≤ r + spent t p) × (c ≤ e + phase_limit t (order_of p)) × (cond (engine p) c 0 ≤ e + latest_take t (order_of p)) × (next_of p ≤ 21)
      → c ≤ r + spent t (next_of p)
  taken = from _ 1 21 (omega arith)

  asked_for :
      (p : ℕ) → 1 ≤ p → p < 22
      → (e ≤ r + spent t p) × (c ≤ e + phase_limit t (order_of p)) × (order_of p ≤ 2)
      → c ≤ r + spent t (clutch_of p)
  asked_for = from _ 1 21 (omega arith)

-- entering a phase other than 0 keeps the request time
request_kept : (q r : ℕ) → 1 ≤ q → cond (eqb q 0) 0 r ≡ r
request_kept q r h = rw (ne_eqb q 0 (omega arith))

-- ---- every accepted step keeps it
module _ (t : Table) (k : Kind) (s : State) (i : InTime t k s) where
  kept : (x : Step) → Holds (checks t s (Ok x)) → InTime t (kind_after k (Ok x)) (effect s x)
  kept FromNeutral h = omega arith
  kept GearToGear h = omega arith
  kept ToNeutral h = omega arith
  kept Deliver h = i
  kept DeviceGood h = i
  kept DeviceFailed h = i
  kept EngineWaits h = i
  kept Take h = λ l m.
      let j = i (omega (arith, tests)) (omega (arith, tests)) in
      let n = next_of_kind k s.phase j.first (omega arith) m in
      let e = taken t s.clock s.phase_time s.request_time s.phase (omega (arith, tests)) (omega (arith, tests)) (omega (arith, tests)) in
      rw (request_kept (next_of s.phase) s.request_time l) (omega arith)
  kept AskClutch h = λ l m.
      let j = i (omega (arith, tests)) (omega (arith, tests)) in
      let n = clutch_of_kind k s.phase j.first (omega arith) (omega (arith, tests)) in
      let e = asked_for t s.clock s.phase_time s.request_time s.phase (omega (arith, tests)) (omega (arith, tests)) (omega (arith, tests)) in
      rw (request_kept (clutch_of s.phase) s.request_time l) (omega arith)
  kept RaiseError h = omega arith
  kept Finish h = omega arith
  kept (Tick n) h = λ l m.
      let j = i l m in
      let w = shifting s.phase (s.clock + n) l m in
      omega (arith, tests)
  kept Reset h = omega arith

  pub kept_in_time : (r : Reading) → guard t s r ≡ 0 → InTime t (kind_after k r) (led s r)
  kept_in_time = each_step (λ r. InTime t (kind_after k r) (led s r)) t s kept

-- every accepted list leads to it
pub in_time :
    (t : Table) (k : Kind) (s : State) (rs : List Reading) → InTime t k s → (run t s rs).number ≡ 0
    → InTime t (last_kind k rs) (run t s rs).state
in_time t k s [] i e = i
in_time t k s (r ∷ rs) i e =
    let w = went_on (guard t s r) _ s (run t (led s r) rs) e in
    rw w.0 (in_time t (kind_after k r) (led s r) rs (kept_in_time t k s i r w.0) w.1)

-- ---- under an admitted table the sum of the kind covers it, and the limit for a whole change covers the sum
module _ (t : Table) (admitted : broken_rule t ≡ 0) where
  pub covered :
      (k : Kind) (p : ℕ) → first_phase k ≤ p → p < 1 + last_phase k → spent t p + phase_limit t (order_of p) ≤ sum_of t k
  covered from_neutral = let h = (first→holds 0 (numbered 1 (rules t)) tt admitted).0 in from _ 1 5 (omega (arith, tests))
  covered gear_to_gear = let h = (first→holds 0 (numbered 1 (rules t)) tt admitted).0 in from _ 6 11 (omega (arith, tests))
  covered to_neutral = let h = (first→holds 0 (numbered 1 (rules t)) tt admitted).0 in from _ 17 5 (omega (arith, tests))

  pub sums_admitted : (k : Kind) → sum_of t k ≤ t.change_dl
  sums_admitted from_neutral = let h = (first→holds 0 (numbered 1 (rules t)) tt admitted).0 in omega (arith, tests)
  sums_admitted gear_to_gear = let h = (first→holds 0 (numbered 1 (rules t)) tt admitted).0 in omega (arith, tests)
  sums_admitted to_neutral = let h = (first→holds 0 (numbered 1 (rules t)) tt admitted).0 in omega (arith, tests)
