-- Laws on guards that are passed: the first of them, found one by one, and what it is answered by.
-- Assumes nothing.
use mathlib.Core.Path.{◌≡◌, refl, ap, sym, ◌∙◌}
use mathlib.Core.Bool.{cond}
use mathlib.Core.List.{List, [], ◌∷◌, ◌++◌}
use Prim.Native.Nat.{ℕ, zero, suc, ◌+◌, ◌-◌, ◌<◌}
use native.Mathlib.Omega.{arith}
use lib.Dec.{eqb}
use borrow.Author.Tests.{ne_eqb}
use Rattle.std.specs.Prelude.{Option, None, Some, Ok}
use Rattle.checks.specs.Checks.{Check, first}
use Rattle.limits.specs.declared.Table.{Table}
use Rattle.manual.specs.declared.Variables.{Variables}
use Rattle.shift.specs.declared.Step.TheVariants.{Tick}
use Rattle.manual.specs.declared.Moved.{Moved}
use Rattle.manual.specs.Variables.{flag, time_of, variables, pass}
use Rattle.manual.specs.Ticks.{past_else, first_past, passed, refusing, phase_limits, stage_limits, clock_limit, tick_guards, tick_excess}
use Rattle.manual.specs.Answers.{accepted, refused, moved}
use Rattle.manual.proofs.AnswerLaws.{refuses, accepts}
use Rattle.manual.proofs.GuardLaws.{alone, before}

grouped : (x y z : ℕ) → past_else (past_else x y) z ≡ past_else x (past_else y z)
unfolding past_else
grouped zero y z = refl
grouped (suc x) y z = refl

-- ---- what is found of some guards: the milliseconds by which the first is passed, and none where that is 0

found : {o : Option ℕ} {k : ℕ} (x : ℕ) → o ≡ passed x → o ≡ Some k → k ≡ x
found zero p q = absurd (cc)
found (suc x) p q = cc

more : {o : Option ℕ} {k : ℕ} (x : ℕ) → o ≡ passed x → o ≡ Some k → ¬ (k ≡ 0)
more zero p q e = absurd (cc)
more {k} (suc x) p q e = let same : k ≡ suc x = found (suc x) p q in omega (arith, same, e)

none : {o : Option ℕ} (x : ℕ) → o ≡ passed x → o ≡ None → x ≡ 0
none zero p q = refl
none (suc x) p q = absurd (cc)

-- ---- what refuses, and by how much: of a list of guards with one number and of what comes after them

pub record Refused (k over : ℕ) (guards : List Check) (limits : List ℕ) : Type 0 where
  pub number : k ≡ first guards
  pub excess : over ≡ first_past limits

counted : (x y n k m : ℕ) → m ≡ cond (eqb y 0) k n → cond (eqb x 0) m n ≡ cond (eqb (past_else x y) 0) k n
unfolding past_else
counted zero y n k m e = e
counted (suc x) y n k m e = rw (ne_eqb (suc x) 0 (λ z. omega arith))

numbers : (n : ℕ) (xs : List ℕ) (rest : List Check) → first (refusing n xs ++ rest) ≡ cond (eqb (first_past xs) 0) (first rest) n
numbers n [] rest = refl
numbers n (x ∷ xs) rest =
    counted x (first_past xs) n (first rest) (first (refusing n xs ++ rest)) (numbers n xs rest)

in_two : (xs ys : List ℕ) → first_past (xs ++ ys) ≡ past_else (first_past xs) (first_past ys)
unfolding past_else
in_two [] ys = refl
in_two (x ∷ xs) ys = ap (past_else x) (in_two xs ys) ∙ sym (grouped x (first_past xs) (first_past ys))

module _ (n : ℕ) (xs ys : List ℕ) (rest : List Check) {x : ℕ} (p : x ≡ first_past xs) where
  stops : ¬ (x ≡ 0) → Refused n x (refusing n xs ++ rest) (xs ++ ys)
  stops h = record {
    number = rw (numbers n xs rest, ← p, ne_eqb x 0 h);
    excess = rw (in_two xs ys, ← p) (before x (first_past ys) h);
  }

  goes : {k over : ℕ} → x ≡ 0 → Refused k over rest ys → Refused k over (refusing n xs ++ rest) (xs ++ ys)
  unfolding past_else
  goes h r = record {
    number = rw (numbers n xs rest, ← p, h) r.number;
    excess = rw (in_two xs ys, ← p, h) r.excess;
  }

-- ---- a tick: the clock's end, then the limits of the channel and of the devices, then those of the phases

module _ (t : Table) (v : Variables) (tick : ℕ) where
  abbrev now : ℕ
  now = v.time + tick

  abbrev stages : List ℕ
  stages = stage_limits t v now

  abbrev phases : List ℕ
  phases = phase_limits t v now

  abbrev ByClock : ℕ → ℕ → Type 0
  ByClock k over = Refused k over (tick_guards t v now) (clock_limit now ++ (stages ++ phases))

  abbrev ByStage : ℕ → ℕ → Type 0
  ByStage k over = Refused k over (refusing 12 stages ++ refusing 11 phases) (stages ++ phases)

  abbrev ByPhase : ℕ → ℕ → Type 0
  ByPhase k over = Refused k over (refusing 11 phases) phases

  past_clock : {x : ℕ} → x ≡ now - 4294967295 → ¬ (x ≡ 0) → ByClock 13 x
  past_clock p =
      stops 13 (clock_limit now) (stages ++ phases) (refusing 12 stages ++ refusing 11 phases) (p ∙ sym (alone (now - 4294967295)))

  in_clock : {k over : ℕ} → now < 4294967296 → ByStage k over → ByClock k over
  in_clock fits =
      let z : now - 4294967295 ≡ 0 = omega (arith, fits) in
      goes 13 (clock_limit now) (stages ++ phases) (refusing 12 stages ++ refusing 11 phases) (sym (alone (now - 4294967295))) z

  past_stage : {x : ℕ} → x ≡ first_past stages → ¬ (x ≡ 0) → ByStage 12 x
  past_stage p = stops 12 stages phases (refusing 11 phases) p

  in_stage : {k over : ℕ} → first_past stages ≡ 0 → ByPhase k over → ByStage k over
  in_stage = goes 12 stages phases (refusing 11 phases) refl

  past_phase : {x : ℕ} → x ≡ first_past phases → ¬ (x ≡ 0) → ByPhase 11 x
  past_phase p = stops 11 phases [] [] p

  in_phase : first_past phases ≡ 0 → ByPhase 0 0
  in_phase z = goes 11 phases [] [] refl z (record { number = refl; excess = refl })

  -- what a tick is answered by
  abbrev answer : Moved
  answer = moved t v (Ok (Tick tick))

  refuse : (k : ℕ) {over : ℕ} → ¬ (k ≡ 0) → ByClock k over → refused k over v ≡ answer
  refuse k {over} h r = refuses k over (pass tick v) v r.number r.excess h

  pub clock_passed : {over : ℕ} → over ≡ now - 4294967295 → ¬ (now < 4294967296) → refused 13 over v ≡ answer
  clock_passed p h = refuse 13 (λ e. omega arith) (past_clock p (λ e. omega (arith, p, e, h)))

  -- where the clock fits
  module _ (fits : now < 4294967296) where
    pub stage_passed : {o : Option ℕ} {over : ℕ} → o ≡ passed (first_past stages) → o ≡ Some over → refused 12 over v ≡ answer
    stage_passed p s =
        let x = first_past stages in
        refuse 12 (λ e. omega arith) (in_clock fits (past_stage (found x p s) (more x p s)))

    module _ {o : Option ℕ} (p : o ≡ passed (first_past stages)) (s : o ≡ None) where
      pub phase_passed : {o' : Option ℕ} {over : ℕ} → o' ≡ passed (first_past phases) → o' ≡ Some over → refused 11 over v ≡ answer
      phase_passed p' s' =
          let x = first_past phases in
          refuse 11 (λ e. omega arith) (in_clock fits (in_stage (none (first_past stages) p s) (past_phase (found x p' s') (more x p' s'))))

      pub none_passed :
          {o' : Option ℕ} {n : ℕ} → o' ≡ passed (first_past phases) → o' ≡ None → n ≡ now
          → accepted (variables n v.isNeu (flag v) (time_of v)) ≡ answer
      none_passed p' s' q =
          let r = in_clock fits (in_stage (none (first_past stages) p s) (in_phase (none (first_past phases) p' s'))) in
          ap (λ k. accepted (variables k v.isNeu (flag v) (time_of v))) q
          ∙ accepts (tick_excess t v now) (pass tick v) v (sym r.number)
