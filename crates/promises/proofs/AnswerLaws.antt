-- The answer to one step is the one that the document describes, and no other is.
-- Assumes nothing.
use mathlib.Core.Path.{◌≡◌, refl, sym, subst, ap, ◌∙◌}
use mathlib.Core.Logic.{◌⊎◌, inl, inr, ⊎_elim, ◌↔◌}
use mathlib.Core.List.{List, [], ◌∷◌}
use Prim.Native.Nat.{ℕ, zero, suc}
use native.Mathlib.Omega.{arith}
use lib.Dec.{T, eqb}
use lib.ListN.{get_or}
use borrow.Author.Tests.{eqb-true, eqb-false}
use Rattle.std.specs.Prelude.{Ok, Err}
use Rattle.checks.specs.Conditions.{Condition, ◌gives◌, FirstOf, OneOf}
use Rattle.checks.proofs.ConditionLaws.{no_other}
use Rattle.checks.proofs.Tests.{case}
use Rattle.limits.specs.declared.Table.{Table}
use Rattle.limits.specs.Rules.{broken_rule}
use Rattle.limits.specs.Refusals.{broken}
use Rattle.limits.proofs.Refusals.{in_order, admitted_in_the_document's_words}
use Rattle.phases.specs.ByPhase.{has}
use Rattle.phases.proofs.ByPhaseLaws.{found}
use Rattle.shift.specs.declared.State.{State}
use Rattle.shift.specs.declared.Step.{Step}
use Rattle.shift.specs.declared.Step.TheVariants.{FromNeutral, GearToGear, ToNeutral, Deliver, DeviceGood, DeviceFailed, EngineWaits, Take, AskClutch, RaiseError, Finish, Tick, Reset}
use Rattle.shift.specs.Readings.{Reading}
use Rattle.shift.specs.declared.Misread.TheVariants.{WrongCode, WrongAmount}
use Rattle.shift.specs.declared.Answer.{Answer}
use Rattle.shift.specs.Answers.{reading, guard, led, excess, answer, judged, admitting}
use Rattle.shift.specs.Refusals.{code_of, amount_of, Reads}
use Rattle.shift.proofs.Refusals.{a_code, reads}
use Rattle.promises.specs.Effects.{Effect}
use Rattle.promises.specs.Refusals.{record_refusals, refusals}
use Rattle.promises.specs.HowFar.{HowFar}
use Rattle.promises.specs.Answered.{Answered}
use Rattle.promises.proofs.Permitted.{permitted}
use Rattle.promises.proofs.EffectLaws.{effects}
use Rattle.promises.proofs.RefusalLaws.{no_request, never_early, first_refusal}
use Rattle.promises.proofs.ExcessLaws.{nothing, how_far, no_other_excess}

-- ---- number, excess and state of an answer, by the broken rule k and the guard's g
module _ (over : ℕ) (next s : State) where
  numbered :
      {P : Type 0} (k g : ℕ) (ws : List Condition) → (k ≡ 0) ↔ P → FirstOf ws g
      → FirstOf (◌gives◌ (¬ P) 4 ∷ ws) (admitting k (answer g over next s) s).number
  numbered zero zero ws p f = inr (λ n. n (p.0 refl), f)
  numbered zero (suc g) ws p f = inr (λ n. n (p.0 refl), f)
  numbered (suc k) g ws p f = inl (λ q. let z = p.1 q in omega arith, refl)

  given_back : (k g : ℕ) → ¬ ((admitting k (answer g over next s) s).number ≡ 0) → (admitting k (answer g over next s) s).state ≡ s
  given_back zero zero n = absurd (n refl)
  given_back zero (suc g) n = refl
  given_back (suc k) g n = refl

  gone_on : (k g : ℕ) → (admitting k (answer g over next s) s).number ≡ 0 → (g ≡ 0) × ((admitting k (answer g over next s) s).state ≡ next)
  gone_on zero zero z = (refl, refl)
  gone_on zero (suc g) z = absurd (omega arith)
  gone_on (suc k) g z = absurd (omega arith)

  ruled : (k g : ℕ) → (admitting k (answer g over next s) s).rule ≡ k
  ruled zero zero = refl
  ruled zero (suc g) = refl
  ruled (suc k) g = refl

  far :
      (t : Table) (code amount k g : ℕ) → HowFar t s code amount g over
      → (let a = admitting k (answer g over next s) s in HowFar t s code amount a.number a.excess)
  far t code amount zero zero h = nothing t s code amount 0 (omega arith)
  far t code amount zero (suc g) h = h
  far t code amount (suc k) g h = nothing t s code amount 4 (omega arith)

-- ---- a step by its code and its amount
abbrev step_of : ℕ → ℕ → Step
step_of code amount =
    get_or (FromNeutral
    ∷ FromNeutral
    ∷ GearToGear
    ∷ ToNeutral
    ∷ Deliver
    ∷ DeviceGood
    ∷ DeviceFailed
    ∷ EngineWaits
    ∷ Take
    ∷ AskClutch
    ∷ RaiseError
    ∷ Finish
    ∷ Tick amount
    ∷ Reset
    ∷ []) code FromNeutral

coded : (x : Step) → step_of (code_of x) (amount_of x) ≡ x
coded FromNeutral = refl
coded GearToGear = refl
coded ToNeutral = refl
coded Deliver = refl
coded DeviceGood = refl
coded DeviceFailed = refl
coded EngineWaits = refl
coded Take = refl
coded AskClutch = refl
coded RaiseError = refl
coded Finish = refl
coded (Tick n) = refl
coded Reset = refl

same_step : (x y : Step) → code_of x ≡ code_of y → amount_of x ≡ amount_of y → x ≡ y
same_step x y c n = sym (coded x) ∙ ap (λ k. step_of k (amount_of x)) c ∙ ap (step_of (code_of y)) n ∙ coded y

module _ (t : Table) (s : State) (code middle amount : ℕ) where
  abbrev given : Answer
  given = admitting (broken_rule t) (judged t s (reading code middle amount)) s

  makes :
      (r : Reading) → Reads code middle amount r → guard t s r ≡ 0
      → (x : Step) × (code_of x ≡ code) × (amount_of x ≡ amount) × Effect s x (led s r)
  makes (Ok x) h z = (x, h.2, h.3, (effects t s (Ok x) ((permitted t s (Ok x)).0 z) (led s (Ok x))).0 refl)
  makes (Err WrongCode) h z = absurd (omega arith)
  makes (Err WrongAmount) h z = absurd (omega arith)

  pub answered : Answered t s code middle amount given.number given.excess given.state
  answered =
      let r = reading code middle amount in
      let over = excess t s r (guard t s r) in
      let read = reads middle amount code in record {
        first = numbered over (led s r) s (broken_rule t) (guard t s r) (record_refusals t s code middle amount) (admitted_in_the_document's_words t) (first_refusal t s code middle amount);
        how_far = far over (led s r) s t code amount (broken_rule t) (guard t s r) (how_far t s code middle amount r read);
        refused = given_back over (led s r) s (broken_rule t) (guard t s r);
        accepted = λ z.
            let w = gone_on over (led s r) s (broken_rule t) (guard t s r) z in
            let m = makes r read w.0 in
            (m.0, m.1, m.2, rw w.1 m.3);
      }

  -- the rule is the one that the table breaks
  pub with_its_rule : FirstOf (broken t) given.rule
  with_its_rule =
      let r = reading code middle amount in
      subst (FirstOf (broken t)) (sym (ruled (excess t s r (guard t s r)) (led s r) s (broken_rule t) (guard t s r))) (in_order t)

  made :
      (r : Reading) → Reads code middle amount r → guard t s r ≡ 0
      → (x : Step) → code_of x ≡ code → amount_of x ≡ amount → (s' : State) → Effect s x s'
      → s' ≡ led s r
  made (Ok y) h z x c n s' e =
      (effects t s (Ok y) ((permitted t s (Ok y)).0 z) s').1 (subst (λ (q : Step). Effect s q s') (same_step x y (c ∙ sym h.2) (n ∙ sym h.3)) e)
  made (Err WrongCode) h z x c n s' e = absurd (omega arith)
  made (Err WrongAmount) h z x c n s' e = absurd (omega arith)

  -- nothing else fits that description
  pub the_one :
      (number over : ℕ) (s' : State) → Answered t s code middle amount number over s'
      → (number ≡ given.number) × (over ≡ given.excess) × (s' ≡ given.state)
  the_one number over s' h =
      let r = reading code middle amount in
      let k = broken_rule t in
      let g = guard t s r in
      let e = excess t s r g in
      let same = no_other (refusals t s code middle amount) number given.number h.first answered.first in (
        same,
        no_other_excess t s code amount given.number over given.excess
            (subst (λ (n : ℕ). HowFar t s code amount n over) same h.how_far)
            answered.how_far,
        case (eqb number 0)
            (λ q.
            let z = eqb-true number 0 q in
            let w = gone_on e (led s r) s k g (sym same ∙ z) in
            let m = h.accepted z in
            made r (reads middle amount code) w.0 m.0 m.1 m.2 s' m.3 ∙ sym w.1)
            (λ q.
            let n = eqb-false number 0 q in
            h.refused n ∙ sym (given_back e (led s r) s k g (λ z. n (same ∙ z)))),
      )

-- ---- the numbers that an answer can have: those of the conditions that can hold
abbrev Keeps : List ℕ → List Condition → Type 0
Keeps ks [] = Unit {0}
Keeps ks (w ∷ ws) = (T (has ks w.number) ⊎ ¬ w.holds) × Keeps ks ws

kept : (ks : List ℕ) (ws : List Condition) (n : ℕ) → Keeps ks ws → FirstOf ws n → OneOf (0 ∷ ks) n
kept ks [] n k f = inl f
kept ks (w ∷ ws) n k f =
    ⊎_elim
    (λ a. ⊎_elim (λ h. inr (subst (OneOf ks) (sym a.1) (found ks w.number h))) (λ d. absurd (d a.0)) k.0)
    (λ a. kept ks ws n k.1 a.1)
    f

module _ (t : Table) (s : State) (middle amount number : ℕ) where
  pub of_a_tick : FirstOf (refusals t s 12 middle amount) number → OneOf (0 ∷ 4 ∷ 6 ∷ 7 ∷ 13 ∷ 12 ∷ 11 ∷ []) number
  of_a_tick =
      kept (4 ∷ 6 ∷ 7 ∷ 13 ∷ 12 ∷ 11 ∷ []) (refusals t s 12 middle amount) number
      (inl tt, (inr (a_code 12 (omega arith) (omega arith)), (inl tt, (inl tt, (inr (no_request t s amount 12 (omega arith)), (inr (never_early t s amount 12 (omega arith)), (inr (λ h. let e = h.0 in omega arith), (inl tt, (inl tt, (inl tt, tt))))))))))

  pub of_another_step :
      (code : ℕ) → ¬ (code ≡ 12) → FirstOf (refusals t s code middle amount) number
      → OneOf (0 ∷ 4 ∷ 5 ∷ 6 ∷ 7 ∷ 8 ∷ 9 ∷ 10 ∷ []) number
  of_another_step code n =
      kept (4 ∷ 5 ∷ 6 ∷ 7 ∷ 8 ∷ 9 ∷ 10 ∷ []) (refusals t s code middle amount) number
      (inl tt, (inl tt, (inl tt, (inl tt, (inl tt, (inl tt, (inl tt, (inr (λ h. n h.0), (inr (λ h. n h.0), (inr (λ h. n h.0), tt))))))))))
