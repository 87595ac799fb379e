-- How late a phase can have begun: the bounds at each place, and that each accepted step keeps them. By computing at each place.
-- Assumes nothing.
use mathlib.Core.Path.{◌≡◌, refl, sym, subst, ◌∙◌}
use mathlib.Core.Bool.{Bool, true, false, cond, ◌&&◌}
use mathlib.Core.List.{List, [], ◌∷◌, map, ◌++◌}
use Prim.Native.Nat.{ℕ, zero, suc, ◌+◌, ◌-◌}
use native.Mathlib.Omega.{arith}
use lib.Dec.{T, leb, eqb, le→leb, eqb→eq}
use lib.ListN.{get_or}
use Rattle.checks.specs.Checks.{first}
use Rattle.checks.proofs.Checks.{first-append}
use Rattle.checks.proofs.Tests.{left, case, passes}
use Rattle.limits.specs.declared.Table.{Table}
use Rattle.phases.specs.Phases.{order_of, next_of, clutch_of, phase_limit, latest_take, engine}
use Rattle.shift.specs.declared.Step.{Step}
use Rattle.shift.specs.declared.Step.TheVariants.{FromNeutral, GearToGear, ToNeutral, Deliver, DeviceGood, DeviceFailed, EngineWaits, Take, AskClutch, RaiseError, Finish, Tick, Reset}
use Rattle.manual.specs.declared.Variables.{Variables}
use Rattle.manual.specs.Variables.{time_of, initialisation}
use Rattle.manual.specs.Events.{answered, or_else}
use Rattle.manual.specs.Ticks.{past, refusing, clock_limit, stage_limits, phase_limits}
use Rattle.manual.specs.Steps.{stepped}
use Rattle.manual.proofs.GuardLaws.{within}
use Rattle.manual.proofs.Places.{Place, phase_of, vars_at, has, orders, lasts, fallible, stages, valid}
use Rattle.manual.proofs.Ways.{goes, leads}
use Rattle.manual.proofs.Places.Place.{rest, at, done, error}
use Rattle.manual.proofs.Same.{steps}
use Rattle.manual_agreement.proofs.Every.{every, in_each_phase, at_each_place, each, amount}
use Rattle.manual_agreement.proofs.Joined.{taken}
use Rattle.manual_invariants.proofs.ListLaws.{Each, all, each→all, tail, each_tail, each_append, refused_by, none_refuses}
use Rattle.manual_invariants.proofs.Standing.{StandsAt, at_start, goes_there, stands_on}

-- ---- bounds

-- when a phase began; 0 stands for now
abbrev pub began : Variables → ℕ → ℕ
began w zero = w.time
began w (suc p) = time_of w (phase_of (suc p)).start_t

-- the limit of a phase, or its EX
abbrev pub limit_of : Table → ℕ → Bool → ℕ
limit_of t p ex = cond ex (latest_take t (order_of p)) (phase_limit t (order_of p))

-- a phase began, or it is now, no later than an earlier phase began + its limit
pub record Bound : Type 0 where
  pub late : ℕ
  pub early : ℕ
  pub ex : Bool

abbrev pub bound : ℕ → ℕ → Bool → Bound
bound q p ex = record { late = q; early = p; ex = ex }

abbrev pub test : Table → Variables → Bound → Bool
test t w b = leb (began w b.late) (began w b.early + limit_of t b.early b.ex)

-- the phase before a phase; 0 where there is none
abbrev before : ℕ → ℕ
before p = get_or (0 ∷ 0 ∷ 1 ∷ 1 ∷ 2 ∷ 4 ∷ 0 ∷ 6 ∷ 6 ∷ 7 ∷ 8 ∷ 10 ∷ 10 ∷ 11 ∷ 9 ∷ 13 ∷ 14 ∷ 0 ∷ 17 ∷ 17 ∷ 18 ∷ 20 ∷ []) p 0

-- what is known on entering phase q from p: by taking, in an engine phase, that EX was kept too
abbrev entering : ℕ → ℕ → List Bound
entering p q = cond (engine p && eqb (next_of p) q) (bound q p true ∷ bound q p false ∷ []) (bound q p false ∷ [])

abbrev back : ℕ → ℕ → List Bound
back zero q = []
back (suc k) q = cond (eqb (before q) 0) [] (entering (before q) q ++ back k (before q))

-- what is known in a phase of those before it, which are at most five
abbrev history : ℕ → List Bound
history = back 5

abbrev pub bounds : Place → List Bound
bounds (rest b) = []
bounds (at p g) = bound 0 p false ∷ history p
bounds (done p) = history p
bounds (error p) = history p

-- ---- a step at a place

module _ (t : Table) (w : Variables) where
  abbrev after : Place → Step → Variables
  after c x = (stepped t (vars_at c w) x).after

  abbrev tests : Place → List Bool
  tests c = map (test t w) (bounds c)

  -- a phase that begins now has not passed its limit
  abbrev fresh : ℕ → Bool
  fresh q = leb w.time (w.time + limit_of t q false)

  -- in an engine phase EX is not passed
  abbrev in_ex : ℕ → List Bool
  in_ex p = cond (engine p) (test t w (bound 0 p true) ∷ []) []

  -- after a tick the phase's limit is not passed
  abbrev in_limit : ℕ → ℕ → Bool
  in_limit n p = leb (w.time + n) (began w p + limit_of t p false)

  -- the same, by how much it is passed
  abbrev not_past : ℕ → ℕ → Bool
  not_past n p = eqb (w.time + n - (began w p + limit_of t p false)) 0

  abbrev in_shift : (ℕ → List Bool) → Place → List Bool
  in_shift f (rest b) = tests (rest b)
  in_shift f (at p g) = f p
  in_shift f (done p) = tests (done p)
  in_shift f (error p) = tests (error p)

  -- the bounds after a step, in words of those before it
  abbrev due : Place → Step → List Bool
  due c FromNeutral = fresh 1 ∷ []
  due c GearToGear = fresh 6 ∷ []
  due c ToNeutral = fresh 17 ∷ []
  due c Deliver = tests c
  due c DeviceGood = tests c
  due c DeviceFailed = tests c
  due c EngineWaits = tests c
  due c Take = in_shift (λ p. cond (has p lasts) (tail (tests c)) (fresh (next_of p) ∷ (in_ex p ++ tests c))) c
  due c AskClutch = in_shift (λ p. fresh (clutch_of p) ∷ tests c) c
  due c RaiseError = tail (tests c)
  due c Finish = []
  due c (Tick n) = in_shift (λ p. in_limit n p ∷ tail (tests c)) c
  due c Reset = []

  module _ (n : ℕ) where
    unfoldable found : Place → List (List Bool)
    found c = map (λ (x : Step). cond (goes c x) (map (test t (after c x)) (bounds (leads c x))) []) (steps n)

    unfoldable wanted : Place → List (List Bool)
    wanted c = map (λ (x : Step). cond (goes c x) (due c x) []) (steps n)

    shifting :
        map (λ (g : ℕ). map (λ (p : ℕ). found (at p g)) orders) stages
        ≡ map (λ (g : ℕ). map (λ (p : ℕ). wanted (at p g)) orders) stages
    unfolding or_else vars_at found wanted
    shifting = refl

    ended : map (λ (p : ℕ). found (done p)) lasts ≡ map (λ (p : ℕ). wanted (done p)) lasts
    unfolding or_else vars_at found wanted
    ended = refl

    failed : map (λ (p : ℕ). found (error p)) fallible ≡ map (λ (p : ℕ). wanted (error p)) fallible
    unfolding or_else vars_at found wanted
    failed = refl

    resting : (b : Bool) → found (rest b) ≡ wanted (rest b)
    unfolding or_else vars_at found wanted
    resting true = refl
    resting false = refl

    at_a_place : (c : Place) → T (valid c) → found c ≡ wanted c
    at_a_place = at_each_place found wanted resting shifting ended failed

    -- of the guards of Tick_Tock on phases one is left, that of the place's phase
    abbrev phase_guards : ℕ → ℕ → List Bool
    phase_guards p g = map (λ (x : ℕ). eqb x 0) (phase_limits t (vars_at (at p g) w) (w.time + n))

    ticking :
        map (λ (g : ℕ). map (λ (p : ℕ). all (phase_guards p g)) orders) stages
        ≡ map (λ (g : ℕ). map (λ (p : ℕ). not_past n p && true) orders) stages
    unfolding past vars_at
    ticking = refl

    -- an accepted tick keeps it
    ticked : (p g : ℕ) → T (valid (at p g)) → answered (stepped t (vars_at (at p g) w) (Tick n)) ≡ 0 → T (in_limit n p)
    unfolding vars_at
    ticked p g h z =
        let now = w.time + n in
        let others = refusing 13 (clock_limit now) ++ refusing 12 (stage_limits t (vars_at (at p g) w) now) in
        let phases = refused_by 11 (phase_guards p g) in
        let e = in_each_phase (λ (k : ℕ) (j : ℕ). all (phase_guards k j)) (λ (k : ℕ) (j : ℕ). not_past n k && true) ticking p g h in
        subst T (sym (within now (began w p + limit_of t p false)))
        (left (not_past n p) true (subst T e (each→all (phase_guards p g) (none_refuses 11 (phase_guards p g) tt (first-append 0 others phases tt z).1))))

  -- a take in an engine phase asks for EX, any other for no time
  taking :
      map (λ (p : ℕ). answered (stepped t (vars_at (at p 3) w) Take)) orders
      ≡ map (λ (p : ℕ). first (refused_by 10 (in_ex p))) orders
  unfolding or_else vars_at
  taking = refl

  took : (p g : ℕ) → T (valid (at p g)) → eqb g 3 ≡ true → answered (stepped t (vars_at (at p g) w) Take) ≡ 0 → Each (in_ex p)
  took p g h e z =
      let a =
      every (λ (k : ℕ). answered (stepped t (vars_at (at k 3) w) Take)) (λ (k : ℕ). first (refused_by 10 (in_ex k))) orders taking
      p (left (has p orders) (has g stages) h) in
      let y = subst (λ (j : ℕ). answered (stepped t (vars_at (at p j) w) Take) ≡ 0) (eqb→eq g 3 (passes (eqb g 3) e)) z in
      none_refuses 10 (in_ex p) tt (sym a ∙ y)

  begins : (q : ℕ) → T (fresh q)
  begins q = le→leb w.time (w.time + limit_of t q false) (omega arith)

  -- ---- what is due after an accepted step holds

  due-at-take :
      (c : Place) → T (valid c) → goes c Take ≡ true → answered (stepped t (vars_at c w) Take) ≡ 0 → Each (tests c)
      → Each (due c Take)
  due-at-take (rest b) h e z i = i
  due-at-take (at p g) h e z i =
      case (has p lasts)
      (λ l. rw l i.1)
      (λ l. rw l (begins (next_of p), each_append (in_ex p) (tests (at p g)) (took p g h e z) i))
  due-at-take (done p) h e z i = i
  due-at-take (error p) h e z i = i

  due_at_ask : (c : Place) → Each (tests c) → Each (due c AskClutch)
  due_at_ask (rest b) i = i
  due_at_ask (at p g) i = (begins (clutch_of p), i)
  due_at_ask (done p) i = i
  due_at_ask (error p) i = i

  due_at_tick :
      (n : ℕ) (c : Place) → T (valid c) → answered (stepped t (vars_at c w) (Tick n)) ≡ 0 → Each (tests c)
      → Each (due c (Tick n))
  due_at_tick n (rest b) h z i = i
  due_at_tick n (at p g) h z i = (ticked n p g h z, i.1)
  due_at_tick n (done p) h z i = i
  due_at_tick n (error p) h z i = i

  due_holds :
      (c : Place) (x : Step) → T (valid c) → goes c x ≡ true → answered (stepped t (vars_at c w) x) ≡ 0 → Each (tests c)
      → Each (due c x)
  due_holds c FromNeutral h e z i = (begins 1, tt)
  due_holds c GearToGear h e z i = (begins 6, tt)
  due_holds c ToNeutral h e z i = (begins 17, tt)
  due_holds c Deliver h e z i = i
  due_holds c DeviceGood h e z i = i
  due_holds c DeviceFailed h e z i = i
  due_holds c EngineWaits h e z i = i
  due_holds c Take h e z i = due-at-take c h e z i
  due_holds c AskClutch h e z i = due_at_ask c i
  due_holds c RaiseError h e z i = each_tail (tests c) i
  due_holds c Finish h e z i = tt
  due_holds c (Tick n) h e z i = due_at_tick n c h z i
  due_holds c Reset h e z i = tt

  keeps :
      (c : Place) (x : Step) → T (valid c) → goes c x ≡ true → answered (stepped t (vars_at c w) x) ≡ 0 → Each (tests c)
      → Each (map (test t (after c x)) (bounds (leads c x)))
  unfolding found wanted
  keeps c x h e z i =
      subst Each
      (sym (taken (goes c x) (map (test t (after c x)) (bounds (leads c x))) (due c x) [] e
      (each (λ (y : Step). cond (goes c y) (map (test t (after c y)) (bounds (leads c y))) []) (λ (y : Step). cond (goes c y) (due c y) []) x (at_a_place (amount x) c h))))
      (due_holds c x h e z i)

-- ---- what a run keeps: the variables stand at a place, and its bounds hold
pub record Timely (t : Table) (v : Variables) : Type 0 where
  pub place : Place
  pub stands : StandsAt place v
  pub in_time : Each (map (test t v) (bounds place))

pub timely_at_start : (t : Table) → Timely t initialisation
timely_at_start t = record { place = rest true; stands = at_start; in_time = tt }

pub timely_on : (t : Table) (v : Variables) (x : Step) → Timely t v → answered (stepped t v x) ≡ 0 → Timely t (stepped t v x).after
timely_on t v x i z =
    let c = i.place in
    let s = i.stands in
    let e = goes_there t v x c s z in
    record {
      place = leads c x;
      stands = stands_on t v x c s e;
      in_time =
          subst (λ (u : Variables). Each (map (test t (stepped t u x).after) (bounds (leads c x)))) (sym s.variables)
          (keeps t v c x s.valid_place e (subst (λ (u : Variables). answered (stepped t u x) ≡ 0) s.variables z) i.in_time);
    }
