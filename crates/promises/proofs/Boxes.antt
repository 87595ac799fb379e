-- The box by phase: where it stands in every state that a list of steps leads to from the start.
-- Assumes nothing.
use mathlib.Core.Path.{◌≡◌, refl}
use mathlib.Core.Bool.{cond}
use mathlib.Core.List.{List, [], ◌∷◌}
use Prim.Native.Nat.{ℕ, zero, suc, ◌≤◌, ◌<◌}
use native.Mathlib.Omega.{arith}
use lib.Dec.{eqb}
use lib.ListN.{get_or}
use Rattle.std.specs.Prelude.{Ok}
use Rattle.checks.proofs.Tests.{tests}
use Rattle.checks.proofs.Checks.{Holds}
use Rattle.checks.proofs.Ranges.{from}
use Rattle.limits.specs.declared.Table.{Table}
use Rattle.phases.specs.Phases.{order_of, next_of, clutch_of}
use Rattle.shift.specs.declared.State.{State}
use Rattle.shift.specs.Readings.{Reading}
use Rattle.shift.specs.declared.Step.{Step}
use Rattle.shift.specs.declared.Step.TheVariants.{FromNeutral, GearToGear, ToNeutral, Deliver, DeviceGood, DeviceFailed, EngineWaits, Take, AskClutch, RaiseError, Finish, Tick, Reset}
use Rattle.shift.specs.Steps.{effect}
use Rattle.shift.specs.Answers.{checks, guard, led}
use Rattle.shift.specs.Runs.{Outcome, after, run}
use Rattle.promises.proofs.Runs.{each_step}

-- the box in phases 1 to 21, from 0 on
abbrev pub boxes : List ℕ
boxes =
    0  -- at rest it stands either way
    ∷ 0 ∷ 0 ∷ 0 ∷ 0  -- 1 to 4, from neutral: neutral until the set order is taken
    ∷ 1  -- 5
    ∷ 1 ∷ 1 ∷ 1 ∷ 1  -- 6 to 9, gear to gear: in gear until the release order is taken
    ∷ 0 ∷ 0 ∷ 0 ∷ 0 ∷ 0  -- 10 to 14: neutral until the set order is taken
    ∷ 1 ∷ 1  -- 15, 16
    ∷ 1 ∷ 1 ∷ 1 ∷ 1  -- 17 to 20, to neutral: in gear until the release order is taken
    ∷ 0  -- 21
    ∷ []

abbrev pub Stands : ℕ → ℕ → Type 0
Stands p box = 1 ≤ p → p ≤ 21 → box ≡ get_or boxes p 0

-- the box once the order of a phase is taken
abbrev pub side : ℕ → ℕ → ℕ
side box p = cond (eqb (order_of p) 5) 1 (cond (eqb (order_of p) 6) 0 box)

-- ---- by the phase table
taken : (box p : ℕ) → 1 ≤ p → p < 22 → (box ≡ get_or boxes p 0) × (next_of p ≤ 21) → side box p ≡ get_or boxes (next_of p) 0
taken box = from _ 1 21 (omega arith)

asked : (box p : ℕ) → 1 ≤ p → p < 22 → (order_of p ≤ 2) × (box ≡ get_or boxes p 0) → box ≡ get_or boxes (clutch_of p) 0
asked box = from _ 1 21 (omega arith)

-- ---- every accepted step keeps it
module _ (t : Table) (s : State) (i : Stands s.phase s.gear_box) where
  kept : (x : Step) → Holds (checks t s (Ok x)) → Stands (effect s x).phase (effect s x).gear_box
  kept FromNeutral h = omega (arith, tests)
  kept GearToGear h = omega (arith, tests)
  kept ToNeutral h = omega (arith, tests)
  kept Deliver h = i
  kept DeviceGood h = i
  kept DeviceFailed h = i
  kept EngineWaits h = i
  kept Take h =
      let l : 1 ≤ s.phase = omega (arith, tests) in
      let m : s.phase ≤ 21 = omega (arith, tests) in
      λ _ n. taken s.gear_box s.phase l (omega arith) (i l m, n)
  kept AskClutch h =
      let l : 1 ≤ s.phase = omega (arith, tests) in
      let m : s.phase ≤ 21 = omega (arith, tests) in
      λ _ _. asked s.gear_box s.phase l (omega arith) (omega (arith, tests), i l m)
  kept RaiseError h = omega (arith, tests)
  kept Finish h = omega (arith, tests)
  kept (Tick n) h = i
  kept Reset h = omega (arith, tests)

  pub kept_standing : (r : Reading) → guard t s r ≡ 0 → Stands (led s r).phase (led s r).gear_box
  kept_standing = each_step (λ r. Stands (led s r).phase (led s r).gear_box) t s kept

-- ---- every list leads to it
goes :
    (k over : ℕ) (s : State) (rest : Outcome) → Stands s.phase s.gear_box
    → (k ≡ 0 → Stands rest.state.phase rest.state.gear_box)
    → Stands (after k over s rest).state.phase (after k over s rest).state.gear_box
goes zero over s rest i f = f refl
goes (suc k) over s rest i f = i

pub standing :
    (t : Table) (s : State) (rs : List Reading) → Stands s.phase s.gear_box
    → Stands (run t s rs).state.phase (run t s rs).state.gear_box
standing t s [] i = i
standing t s (r ∷ rs) i =
    goes (guard t s r) _ s (run t (led s r) rs) i (λ z. standing t (led s r) rs (kept_standing t s i r z))
