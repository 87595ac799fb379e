-- The invariants of times follow from the bounds of the place. By computing at each place.
-- Assumes nothing.
use mathlib.Core.Path.{◌≡◌, refl, sym, ap, subst}
use mathlib.Core.Bool.{Bool, true, false, cond, ◌&&◌, ◌||◌, beq}
use mathlib.Core.Logic.{⊎_elim}
use mathlib.Core.List.{List, [], ◌∷◌, map}
use Prim.Native.Nat.{ℕ, ◌+◌, ◌≤◌}
use native.Mathlib.Omega.{arith}
use lib.Dec.{T, leb, eqb, leb→le, le→leb, eqb→eq}
use lib.ListN.{get_or}
use Rattle.checks.proofs.Tests.{left, right, either, case, passes}
use Rattle.limits.specs.declared.Table.{Table}
use Rattle.manual.specs.declared.Variables.{Variables}
use Rattle.manual.proofs.Places.{Place, vars_at, orders, lasts, fallible, stages, valid}
use Rattle.manual.proofs.Places.Place.{rest, at, done, error}
use Rattle.manual_agreement.proofs.Every.{at_each_place}
use Rattle.manual_invariants.specs.Invariants.{TimeInvariants, m5_times, m6_times, m7_times, m8_times}
use Rattle.manual_invariants.proofs.ListLaws.{Each, formulas, each→hold}
use Rattle.manual_invariants.proofs.Bounds.{began, limit_of, Bound, bound, test, bounds, Timely}

-- ---- claims

-- phase `late` began, or it is now, no later than phase `early` began + its limit or EX, + the limit of phase `via` where there is one
record Claim : Type 0 where
  late : ℕ
  early : ℕ
  ex : Bool
  via : ℕ

abbrev within : ℕ → ℕ → Claim
within q p = record { late = q; early = p; ex = false; via = 0 }

abbrev within_ex : ℕ → ℕ → Claim
within_ex q p = record { late = q; early = p; ex = true; via = 0 }

abbrev within_both : ℕ → ℕ → ℕ → Claim
within_both q p m = record { late = q; early = p; ex = false; via = m }

abbrev limit : Table → Claim → ℕ
limit t k = cond (eqb k.via 0) (limit_of t k.early k.ex) (limit_of t k.early k.ex + limit_of t k.via false)

-- of now the manual writes limit + time, else time + limit
abbrev claim : Table → Variables → Claim → Bool
claim t w k =
    leb (began w k.late) (cond (eqb k.late 0) (limit t k + began w k.early) (began w k.early + limit t k))

-- in the order of the invariants; 0 is now

abbrev claims5 : List Claim
claims5 =
    within_both 3 1 2  -- inv20
    ∷ within_both 4 1 2  -- inv21
    ∷ within 5 4  -- inv22
    ∷ within_both 0 1 2  -- inv23
    ∷ within 0 4  -- inv24
    ∷ []

abbrev claims6 : List Claim
claims6 =
    within_both 19 17 18  -- inv20
    ∷ within_both 20 17 18  -- inv21
    ∷ within 21 20  -- inv22
    ∷ within_both 0 17 18  -- inv23
    ∷ within 0 20  -- inv24
    ∷ []

abbrev claims7 : List Claim
claims7 =
    within_ex 8 6  -- inv42
    ∷ within_both 9 6 7  -- inv43
    ∷ within_ex 12 10  -- inv44
    ∷ within_both 13 10 11  -- inv45
    ∷ within 16 14  -- inv46
    ∷ within 15 13  -- inv47
    ∷ within_both 0 6 7  -- inv48
    ∷ within_both 0 10 11  -- inv49
    ∷ within 0 14  -- inv50
    ∷ within 0 13  -- inv51
    ∷ within 0 8  -- inv52
    ∷ within 10 8  -- inv55
    ∷ within 0 8  -- inv56
    ∷ []

abbrev claims8 : List Claim
claims8 =
    within 2 1  -- inv13
    ∷ within 18 17  -- inv14
    ∷ within 7 6  -- inv15
    ∷ within 11 10  -- inv16
    ∷ within 0 1  -- inv17
    ∷ within 0 17  -- inv18
    ∷ within 0 6  -- inv19
    ∷ within 0 10  -- inv20
    ∷ []

-- ---- a claim follows from the bounds

abbrev same : Bound → Bound → Bool
same a b = eqb a.late b.late && (eqb a.early b.early && beq a.ex b.ex)

abbrev known : Bound → List Bound → Bool
known a [] = false
known a (b ∷ bs) = same a b || known a bs

-- at once, or by way of the phase between
abbrev follows : List Bound → Claim → Bool
follows bs k =
    let at_once = known (bound k.late k.early k.ex) bs in
    cond (eqb k.via 0) at_once (at_once || (known (bound k.late k.via false) bs && known (bound k.via k.early k.ex) bs))

one_kind : (b c : Bool) → T (beq b c) → b ≡ c
one_kind true true h = refl
one_kind true false h = absurd h
one_kind false true h = absurd h
one_kind false false h = refl

-- either way of writing a sum
as_written : (b : Bool) (x y l : ℕ) → x ≤ y + l → T (leb x (cond b (l + y) (y + l)))
as_written true x y l h = le→leb x (l + y) (omega arith)
as_written false x y l h = le→leb x (y + l) h

module _ (t : Table) (w : Variables) where
  alike : (a b : Bound) → T (same a b) → T (test t w b) → T (test t w a)
  alike a b h i =
      let late = eqb a.late b.late in
      let early = eqb a.early b.early in
      let kind = beq a.ex b.ex in
      let r = right late (early && kind) h in
      rw (eqb→eq a.late b.late (left late (early && kind) h), eqb→eq a.early b.early (left early kind r), one_kind a.ex b.ex (right early kind r)) i

  is_known : (a : Bound) (bs : List Bound) → T (known a bs) → Each (map (test t w) bs) → T (test t w a)
  is_known a [] h i = absurd h
  is_known a (b ∷ bs) h i =
      ⊎_elim
      (λ s. alike a b s i.0)
      (λ r. is_known a bs r i.1)
      (either (same a b) (known a bs) h)

  claim_holds : (bs : List Bound) (k : Claim) → T (follows bs k) → Each (map (test t w) bs) → T (claim t w k)
  claim_holds bs k h i =
      let x = began w k.late in
      let y = began w k.early in
      let m = began w k.via in
      let l = limit_of t k.early k.ex in
      let n = limit_of t k.via false in
      let direct = known (bound k.late k.early k.ex) bs in
      let one = known (bound k.late k.via false) bs in
      let two = known (bound k.via k.early k.ex) bs in
      case (eqb k.via 0)
      (λ e. rw e (as_written (eqb k.late 0) x y l (leb→le x (y + l) (is_known (bound k.late k.early k.ex) bs (rw e at h) i))))
      (λ e. rw e (as_written (eqb k.late 0) x y (l + n)
      (⊎_elim
      (λ d. let u = leb→le x (y + l) (is_known (bound k.late k.early k.ex) bs d i) in omega arith)
      (λ d.
      let u = leb→le x (m + n) (is_known (bound k.late k.via false) bs (left one two d) i) in
      let o = leb→le m (y + l) (is_known (bound k.via k.early k.ex) bs (right one two d) i) in
      omega arith)
      (either direct (one && two) (rw e at h)))))

  claims_hold :
      (bs : List Bound) (ks : List Claim) → Each (map (test t w) bs)
      → Each (map (λ (k : Claim). cond (follows bs k) (claim t w k) true) ks)
  claims_hold bs [] i = tt
  claims_hold bs (k ∷ ks) i =
      (case (follows bs k) (λ e. rw e (claim_holds bs k (passes (follows bs k) e) i)) (λ e. rw e tt), claims_hold bs ks i)

-- ---- at each place

abbrev lists : Table → Variables → List (List Bool)
lists t v = map formulas (m5_times t v ∷ m6_times t v ∷ m7_times t v ∷ m8_times t v ∷ [])

module _ (t : Table) (w : Variables) where
  unfoldable found : Place → List (List Bool)
  found c = lists t (vars_at c w)

  unfoldable wanted : Place → List (List Bool)
  wanted c =
      map (λ (ks : List Claim). map (λ (k : Claim). cond (follows (bounds c) k) (claim t w k) true) ks)
      (claims5 ∷ claims6 ∷ claims7 ∷ claims8 ∷ [])

  shifting :
      map (λ (g : ℕ). map (λ (p : ℕ). found (at p g)) orders) stages
      ≡ map (λ (g : ℕ). map (λ (p : ℕ). wanted (at p g)) orders) stages
  unfolding vars_at found wanted
  shifting = refl

  ended : map (λ (p : ℕ). found (done p)) lasts ≡ map (λ (p : ℕ). wanted (done p)) lasts
  unfolding vars_at found wanted
  ended = refl

  failed : map (λ (p : ℕ). found (error p)) fallible ≡ map (λ (p : ℕ). wanted (error p)) fallible
  unfolding vars_at found wanted
  failed = refl

  resting : (b : Bool) → found (rest b) ≡ wanted (rest b)
  unfolding vars_at found wanted
  resting b = refl

  at_a_place : (c : Place) → T (valid c) → found c ≡ wanted c
  at_a_place = at_each_place found wanted resting shifting ended failed

pub times_hold : (t : Table) (v : Variables) → Timely t v → TimeInvariants t v
unfolding found wanted
times_hold t v i =
    let c = i.place in
    let e : lists t v ≡ wanted t v c = subst (λ (u : Variables). lists t u ≡ wanted t v c) (sym i.stands.variables) (at_a_place t v c i.stands.valid_place) in
    record {
      m5 = each→hold (m5_times t v) (subst Each (sym (ap (λ l. get_or l 0 []) e)) (claims_hold t v (bounds c) claims5 i.in_time));
      m6 = each→hold (m6_times t v) (subst Each (sym (ap (λ l. get_or l 1 []) e)) (claims_hold t v (bounds c) claims6 i.in_time));
      m7 = each→hold (m7_times t v) (subst Each (sym (ap (λ l. get_or l 2 []) e)) (claims_hold t v (bounds c) claims7 i.in_time));
      m8 = each→hold (m8_times t v) (subst Each (sym (ap (λ l. get_or l 3 []) e)) (claims_hold t v (bounds c) claims8 i.in_time));
    }
