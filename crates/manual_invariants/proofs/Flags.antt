-- The invariants of flags hold at each place. By computing.
-- Assumes nothing.
use mathlib.Core.Path.{◌≡◌, refl, sym, ap, subst}
use mathlib.Core.Bool.{Bool, true}
use mathlib.Core.List.{List, [], ◌∷◌, map}
use Prim.Native.Nat.{ℕ}
use lib.Dec.{T}
use lib.ListN.{get_or}
use Rattle.checks.proofs.Tests.{passes}
use Rattle.manual.specs.declared.Variables.{Variables}
use Rattle.manual.proofs.Places.{Place, vars_at, orders, lasts, fallible, stages, valid}
use Rattle.manual.proofs.Places.Place.{rest, at, done, error}
use Rattle.manual_agreement.proofs.Every.{at_each_place}
use Rattle.manual_invariants.specs.Invariants.{Invariant, Hold, FlagInvariants, m1, m5, m6, m7, m8, m9, ours}
use Rattle.manual_invariants.proofs.ListLaws.{all, all→each, formulas, each→hold}
use Rattle.manual_invariants.proofs.Standing.{StandsAt}

-- one test for each list
abbrev tests : Variables → List Bool
tests v = map (λ (is : List Invariant). all (formulas is)) (m1 v ∷ m5 v ∷ m6 v ∷ m7 v ∷ m8 v ∷ m9 v ∷ ours v ∷ [])

abbrev passing : List Bool
passing = true ∷ true ∷ true ∷ true ∷ true ∷ true ∷ true ∷ []

module _ (w : Variables) where
  unfoldable found : Place → List Bool
  found c = tests (vars_at c w)

  abbrev wanted : Place → List Bool
  wanted c = passing

  shifting :
      map (λ (g : ℕ). map (λ (p : ℕ). found (at p g)) orders) stages
      ≡ map (λ (g : ℕ). map (λ (p : ℕ). wanted (at p g)) orders) stages
  unfolding found vars_at
  shifting = refl

  ended : map (λ (p : ℕ). found (done p)) lasts ≡ map (λ (p : ℕ). wanted (done p)) lasts
  unfolding found vars_at
  ended = refl

  failed : map (λ (p : ℕ). found (error p)) fallible ≡ map (λ (p : ℕ). wanted (error p)) fallible
  unfolding found vars_at
  failed = refl

  resting : (b : Bool) → found (rest b) ≡ wanted (rest b)
  unfolding found vars_at
  resting b = refl

  at_a_place : (c : Place) → T (valid c) → found c ≡ wanted c
  at_a_place = at_each_place found wanted resting shifting ended failed

holding : (is : List Invariant) → all (formulas is) ≡ true → Hold is
holding is e = each→hold is (all→each (formulas is) (passes (all (formulas is)) e))

pub flags_hold : (c : Place) (v : Variables) → StandsAt c v → FlagInvariants v
unfolding found
flags_hold c v i =
    let e : tests v ≡ passing = subst (λ (u : Variables). tests u ≡ passing) (sym i.variables) (at_a_place v c i.valid_place) in
    record {
      m1 = holding (m1 v) (ap (λ l. get_or l 0 true) e);
      m5 = holding (m5 v) (ap (λ l. get_or l 1 true) e);
      m6 = holding (m6 v) (ap (λ l. get_or l 2 true) e);
      m7 = holding (m7 v) (ap (λ l. get_or l 3 true) e);
      m8 = holding (m8 v) (ap (λ l. get_or l 4 true) e);
      m9 = holding (m9 v) (ap (λ l. get_or l 5 true) e);
      ours = holding (ours v) (ap (λ l. get_or l 6 true) e);
    }
