-- Demand 2, in laws: a run is accepted up to exactly the step that the rules first forbid.
-- Assumes nothing.
use mathlib.Core.Path.{◌≡◌, refl, sym, ap, ◌∙◌}
use mathlib.Core.List.{List, [], ◌∷◌}
use Prim.Native.Nat.{ℕ, zero, suc, ◌≤◌, ◌<◌}
use native.Mathlib.Nat.{le_of_suc-le-suc}
use native.Mathlib.Omega.{arith}
use lib.Dec.{eqb}
use lib.ListN.{length, take}
use borrow.Author.Tests.{eqb-true, eqb-false}
use Rattle.checks.proofs.Tests.{case}
use Rattle.limits.specs.declared.Table.{Table}
use Rattle.shift.specs.declared.State.{State}
use Rattle.shift.specs.Readings.{Reading}
use Rattle.shift.specs.Answers.{guard, led, excess}
use Rattle.shift.specs.Runs.{Outcome, after, run}
use Rattle.promises.specs.Allowed.{Permitted}
use Rattle.promises.specs.Verdicts.{Exact, leads, at}
use Rattle.promises.proofs.Permitted.{permitted}

module _ (t : Table) (s : State) (r : Reading) (rs : List Reading) where
  -- the first step is allowed, and so is each before the count of the rest
  allowed_on :
      (o : Outcome) → Exact t (led s r) rs o → guard t s r ≡ 0
      → (i : ℕ) → i < suc o.count → Permitted t (leads s (take i (r ∷ rs))) (at (r ∷ rs) i)
  allowed_on o x e zero h = (permitted t s r).0 e
  allowed_on o x e (suc i) h = x.allowed i (le_of_suc-le-suc h)

  one_more : (k : ℕ) (o : Outcome) → guard t s r ≡ k → Exact t (led s r) rs o → Exact t s (r ∷ rs) (after k (excess t s r k) s o)
  one_more zero o e x = record {
    allowed = allowed_on o x e;
    state = x.state;
    refused = λ h. let f = x.refused h in (omega arith, f.1);
    accepted = λ h. ap suc (x.accepted h);
    over = x.over;
  }
  one_more (suc k) o e x = record {
    allowed = λ i h. absurd (omega arith);
    state = refl;
    refused = λ h. (omega arith, e);
    accepted = λ h. absurd (omega arith);
    over = refl;
  }

pub exact : (t : Table) (s : State) (rs : List Reading) → Exact t s rs (run t s rs)
exact t s [] = record {
  allowed = λ i h. absurd (omega arith);
  state = refl;
  refused = λ h. absurd (h refl);
  accepted = λ h. refl;
  over = refl;
}
exact t s (r ∷ rs) = one_more t s r rs (guard t s r) (run t (led s r) rs) refl (exact t (led s r) rs)

-- ---- and that fixes the outcome
module _ (t : Table) (s : State) (rs : List Reading) where
  short : (o : Outcome) → Exact t s rs o → o.count ≤ length rs
  short o x =
      case (eqb o.number 0)
      (λ e. let l = x.accepted (eqb-true o.number 0 e) in omega arith)
      (λ e. let l = (x.refused (eqb-false o.number 0 e)).0 in omega arith)

  not_before : (a b : Outcome) → Exact t s rs a → Exact t s rs b → a.count < b.count → ⊥
  not_before a b x y h =
      let n : ¬ (a.number ≡ 0) = λ e. let l = x.accepted e in let m = short b y in omega arith in
      let p = (permitted t (leads s (take a.count rs)) (at rs a.count)).1 (y.allowed a.count h) in
      n (sym (x.refused n).1 ∙ rw x.state p)

  same_number : (a b : Outcome) → Exact t s rs a → Exact t s rs b → a.count ≡ b.count → a.state ≡ b.state → a.number ≡ b.number
  same_number a b x y c z =
      case (eqb a.number 0)
      (λ e.
      let n = eqb-true a.number 0 e in
      let l = x.accepted n in
      case (eqb b.number 0)
      (λ f. n ∙ sym (eqb-true b.number 0 f))
      (λ f. let m = (y.refused (eqb-false b.number 0 f)).0 in absurd (omega arith)))
      (λ e.
      let f = x.refused (eqb-false a.number 0 e) in
      let m : ¬ (b.number ≡ 0) = λ q. let l = y.accepted q in absurd (omega arith) in
      sym f.1 ∙ rw (z, c) (y.refused m).1)

  same_count : (a b : Outcome) → Exact t s rs a → Exact t s rs b → a.count ≡ b.count
  same_count a b x y =
      let l : ¬ (a.count < b.count) = not_before a b x y in
      let m : ¬ (b.count < a.count) = not_before b a y x in
      omega arith

  same_state : (a b : Outcome) → Exact t s rs a → Exact t s rs b → a.state ≡ b.state
  same_state a b x y = x.state ∙ ap (λ n. leads s (take n rs)) (same_count a b x y) ∙ sym y.state

  pub only : (a b : Outcome) → Exact t s rs a → Exact t s rs b → a ≡ b
  only a b x y =
      let c = same_count a b x y in
      let z = same_state a b x y in
      let k = same_number a b x y c z in
      let e : a.excess ≡ b.excess =
      x.over
      ∙ ap (λ (q : State). excess t q (at rs a.count) a.number) z
      ∙ ap (λ n. excess t b.state (at rs n) a.number) c
      ∙ ap (excess t b.state (at rs b.count)) k
      ∙ sym y.over
      in
      ap (λ n. record { count = n; number = a.number; excess = a.excess; state = a.state }) c
      ∙ ap (λ n. record { count = b.count; number = n; excess = a.excess; state = a.state }) k
      ∙ ap (λ n. record { count = b.count; number = b.number; excess = n; state = a.state }) e
      ∙ ap (λ n. record { count = b.count; number = b.number; excess = b.excess; state = n }) z
