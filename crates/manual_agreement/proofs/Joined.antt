-- The invariant: both engines stand at one place. A step is answered alike there, and an accepted one leads both to one place.
-- Assumes nothing.
use mathlib.Core.Path.{◌≡◌, sym, ap, subst, ◌∙◌}
use mathlib.Core.Bool.{Bool, true, false, cond}
use mathlib.Core.List.{List, map, ◌++◌}
use Prim.Native.Nat.{ℕ, suc}
use native.Mathlib.Omega.{arith}
use lib.Dec.{T}
use Rattle.std.specs.Prelude.{Ok}
use Rattle.checks.specs.Checks.{Check, first}
use Rattle.checks.proofs.Tests.{case, passes}
use Rattle.limits.specs.declared.Table.{Table}
use Rattle.shift.specs.declared.State.{State}
use Rattle.shift.specs.declared.Step.{Step}
use Rattle.shift.specs.Steps.{effect}
use Rattle.shift.specs.Answers.{listed, guard, excess}
use Rattle.manual.specs.declared.Variables.{Variables}
use Rattle.manual.specs.Events.{answered, exceeded}
use Rattle.manual.specs.Steps.{stepped}
use Rattle.manual.proofs.Places.{Place, vars_at, state_at, orders, stages, valid}
use Rattle.manual.proofs.Places.Place.{at}
use Rattle.manual.proofs.Ways.{goes, leads, refusal}
use Rattle.manual.proofs.Plainly.{plainly, plain, plain_over, over}
use Rattle.manual.proofs.Same.{Fact, found, wanted, all_found, all_wanted, theirs, ours, theirs_over, ours_over, after, next, resting, sent, working, ready, held, ended, failed}
use Rattle.manual_agreement.proofs.Every.{at_each_place, each, amount}

-- ---- the facts of every place and step

four : {A : Type 0} (f g : ℕ → A) → f 1 ≡ g 1 → f 2 ≡ g 2 → f 3 ≡ g 3 → f 4 ≡ g 4 → map f stages ≡ map g stages
four f g a b c d = rw (a, b, c, d)

module _ (t : Table) (w : Variables) (s : State) (n : ℕ) where
  of_steps : (c : Place) → T (valid c) → all_found t w s n c ≡ all_wanted t w s n c
  of_steps =
      at_each_place (all_found t w s n) (all_wanted t w s n) (resting t w s n)
      (four (λ (g : ℕ). map (λ (p : ℕ). all_found t w s n (at p g)) orders) (λ (g : ℕ). map (λ (p : ℕ). all_wanted t w s n (at p g)) orders) (sent t w s n) (working t w s n) (ready t w s n) (held t w s n))
      (ended t w s n) (failed t w s n)

pub taken : {A : Type 0} (b : Bool) (x y z : A) → b ≡ true → cond b x z ≡ cond b y z → x ≡ y
taken true x y z e h = h
taken false x y z e h = absurd (subst (λ (c : Bool). T c) (sym e) tt)

valid_where : (b c : Bool) → b ≡ true → cond b c true ≡ true → T c
valid_where true c e h = passes c h
valid_where false c e h = absurd (subst (λ (x : Bool). T x) (sym e) tt)

not_accepted : (b : Bool) (k n : ℕ) → b ≡ false → cond b 0 k ≡ cond b 0 (suc n) → k ≡ 0 → ⊥
not_accepted true k n e h z = absurd (subst (λ (x : Bool). T x) e tt)
not_accepted false k n e h z = absurd (omega arith)

module _ (t : Table) (w : Variables) (s : State) (c : Place) (h : T (valid c)) (x : Step) where
  fact : found t w s c x ≡ wanted t w s c x
  fact = each (found t w s c) (wanted t w s c) x (of_steps t w s (amount x) c h)

  same_number : theirs t w s c x ≡ ours t w s c x
  unfolding found wanted
  same_number = ap (λ (f : Fact). f.number) fact

  same_excess : theirs_over t w s c x ≡ ours_over t w s c x
  unfolding found wanted
  same_excess = ap (λ (f : Fact). f.excess) fact

  pub goes_where_accepted : theirs t w s c x ≡ 0 → goes c x ≡ false → ⊥
  unfolding found wanted
  goes_where_accepted z e =
      not_accepted (goes c x) (ours t w s c x) (refusal c x) e (ap (λ (f : Fact). f.refusal) fact) (sym same_number ∙ z)

  pub same_after : goes c x ≡ true → after t w s c x ≡ vars_at (leads c x) (after t w s c x)
  unfolding found wanted
  same_after e =
      taken (goes c x) (after t w s c x) (vars_at (leads c x) (after t w s c x)) w e (ap (λ (f : Fact). f.variables) fact)

  same_next : goes c x ≡ true → next t w s c x ≡ state_at (leads c x) (after t w s c x) (next t w s c x)
  unfolding found wanted
  same_next e =
      taken (goes c x) (next t w s c x) (state_at (leads c x) (after t w s c x) (next t w s c x)) s e (ap (λ (f : Fact). f.state) fact)

  pub still_valid : goes c x ≡ true → T (valid (leads c x))
  unfolding found wanted
  still_valid e = valid_where (goes c x) (valid (leads c x)) e (ap (λ (f : Fact). f.place) fact)

-- ---- both at one place

pub record Joined (v : Variables) (s : State) : Type 0 where
  pub place : Place
  pub valid_place : T (valid place)
  pub variables : v ≡ vars_at place v
  pub state : s ≡ state_at place v s

module _ (t : Table) (v : Variables) (s : State) (x : Step) (i : Joined v s) where
  abbrev c : Place
  c = i.place

  pub answers : answered (stepped t v x) ≡ guard t s (Ok x)
  answers =
      subst (λ (u : Variables). answered (stepped t u x) ≡ guard t s (Ok x)) (sym i.variables)
      (same_number t v s c i.valid_place x
      ∙ subst (λ (r : State). first (listed r ++ plainly t r x) ≡ guard t s (Ok x)) i.state
      (ap (λ (cs : List Check). first (listed s ++ cs)) (sym (plain t s x))))

  pub exceeds : exceeded (stepped t v x) ≡ excess t s (Ok x) (guard t s (Ok x))
  exceeds =
      subst (λ (u : Variables). exceeded (stepped t u x) ≡ excess t s (Ok x) (guard t s (Ok x))) (sym i.variables)
      (same_excess t v s c i.valid_place x
      ∙ subst (λ (r : State). plain_over t r x ≡ excess t s (Ok x) (guard t s (Ok x))) i.state (sym (over t s x)))

  pub leads_on : answered (stepped t v x) ≡ 0 → Joined (stepped t v x).after (effect s x)
  leads_on z =
      let h = i.valid_place in
      case (goes c x)
      (λ e. record {
        place = leads c x;
        valid_place = still_valid t v s c h x e;
        variables =
            subst (λ (u : Variables). (stepped t u x).after ≡ vars_at (leads c x) (stepped t u x).after) (sym i.variables)
            (same_after t v s c h x e);
        state =
            subst (λ (r : State). effect r x ≡ state_at (leads c x) (stepped t v x).after (effect r x)) (sym i.state)
            (subst (λ (u : Variables). effect (state_at c v s) x ≡ state_at (leads c x) (stepped t u x).after (effect (state_at c v s) x)) (sym i.variables)
            (same_next t v s c h x e));
      })
      (λ e. absurd (goes_where_accepted t v s c h x (subst (λ (u : Variables). answered (stepped t u x) ≡ 0) i.variables z) e))
