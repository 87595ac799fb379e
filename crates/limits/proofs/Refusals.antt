-- Both defaults and the house's table are those of specs/Refusals.antt, and admitted; a table is admitted where the sixteen rules hold in
-- its words, and the broken rule is the first of them that does not.
-- Assumes nothing.
use mathlib.Core.Path.{◌≡◌, refl}
use mathlib.Core.Logic.{◌↔◌, ◌⊎◌}
use mathlib.Core.Bool.{Bool, ◌&&◌, ◌||◌}
use mathlib.Core.List.{List, [], ◌∷◌, map}
use Prim.Native.Nat.{ℕ, suc, ◌≤◌, ◌<◌}
use lib.Dec.{T_not}
use Rattle.checks.specs.Checks.{numbered}
use Rattle.checks.specs.Conditions.{FirstOf}
use Rattle.checks.proofs.ConditionLaws.{Tested, first_of}
use Rattle.checks.proofs.Checks.{Holds, holds→first, first→holds, at_most}
use Rattle.checks.proofs.Tests.{Tests, nothing_to_test, most, equal, all_of, some_of}
use Rattle.limits.specs.declared.Table.{Table}
use Rattle.limits.specs.Limits.{limits, undelayed}
use Rattle.limits.specs.Rules.{at_least1, waits, rules, broken_rule}
use Rattle.limits.specs.Refusals.{by_old_default, by_new_default, by_house, NoDelays, BothDelayed, All, rules_stated, Admitted, broken_from, broken}
use Rattle.limits.proofs.Table.broken_rule.Reads as broken_rule_reads
use Rattle.limits.proofs.Table.old_default.Reads as old_default_reads
use Rattle.limits.proofs.Table.new_default.Reads as new_default_reads
use Rattle.limits.proofs.Table.house.Reads as house_reads

-- tests of a list of statements
abbrev pub Each : List Bool → List (Type 0) → Type 0
Each [] [] = Unit {0}
Each [] (P ∷ Ps) = ⊥
Each (b ∷ bs) [] = ⊥
Each (b ∷ bs) (P ∷ Ps) = Tests b P × Each bs Ps

tested : (n : ℕ) (bs : List Bool) (Ps : List (Type 0)) → Each bs Ps → Tested (numbered n bs) (broken_from n Ps)
tested n [] [] h = tt
tested n [] (P ∷ Ps) h = h
tested n (b ∷ bs) [] h = h
tested n (b ∷ bs) (P ∷ Ps) h =
    ((λ f p. T_not b f (h.0.shown p), (λ o f. f (h.0.read o), refl)), tested (suc n) bs Ps h.1)

every : (n : ℕ) (bs : List Bool) (Ps : List (Type 0)) → Each bs Ps → Holds (numbered n bs) ↔ All Ps
every n [] [] h = (λ _. tt, λ _. tt)
every n [] (P ∷ Ps) h = absurd h
every n (b ∷ bs) [] h = absurd h
every n (b ∷ bs) (P ∷ Ps) h =
    let rest = every (suc n) bs Ps h.1 in
    (λ q. (h.0.read q.0, rest.0 q.1), λ q. (h.0.shown q.0, rest.1 q.1))

-- rule 1, entry by entry
at_least : (xs : List ℕ) → Tests (at_least1 xs) (All (map (λ x. 1 ≤ x) xs))
at_least [] = nothing_to_test
at_least (x ∷ xs) = all_of most (at_least xs)

-- rule 16: the four zeros, and the two orders that wait
pub zeros : (t : Table) → Tests (undelayed t) (NoDelays t)
zeros t =
    let each : Tests (undelayed t) _ = all_of equal (all_of equal (all_of equal equal)) in
    record {
      read = λ h.
          let z = each.read h in
          record { plain_open = z.0; error_open = z.1.0; plain_close = z.1.1.0; error_close = z.1.1.1 };
      shown = λ n. each.shown (n.plain_open, (n.error_open, (n.plain_close, n.error_close)));
    }

waiting : (plain error device : ℕ) → Tests (waits plain error device) ((1 ≤ plain) × ((plain < error) × (error ≤ device)))
waiting plain error device = all_of most (all_of most most)

module _ (t : Table) where
  abbrev opens : Bool
  opens = waits t.clutch_open_de t.error_clutch_open_de t.clutch_open_dl

  abbrev closes : Bool
  closes = waits t.clutch_close_de t.error_clutch_close_de t.clutch_close_dl

  both_wait : Tests (opens && closes) (BothDelayed t)
  both_wait =
      let each =
      all_of
      (waiting t.clutch_open_de t.error_clutch_open_de t.clutch_open_dl)
      (waiting t.clutch_close_de t.error_clutch_close_de t.clutch_close_dl) in
      record {
        read = λ h.
            let w = each.read h in
            record {
              plain_open = w.0.0;
              plain_close = w.1.0;
              exceeds_open = w.0.1.0;
              exceeds_close = w.1.1.0;
              within_open = w.0.1.1;
              within_close = w.1.1.1;
            };
        shown = λ d.
            each.shown ((d.plain_open, (d.exceeds_open, d.within_open)), (d.plain_close, (d.exceeds_close, d.within_close)));
      }

  delays : Tests (undelayed t || (opens && closes)) (NoDelays t ⊎ BothDelayed t)
  delays = some_of (zeros t) both_wait

  pub each : Each (rules t) (rules_stated t)
  each = (at_least (limits t), (most, (most, (most, (most, (most, (most, (most, (most, (most, (most, (most, (most, (most, (most, (delays, tt))))))))))))))))

  pub in_order : FirstOf (broken t) (broken_rule t)
  in_order = first_of (numbered 1 (rules t)) (broken t) (tested 1 (rules t) (rules_stated t) each)

  pub at_most_16 : broken_rule t ≤ 16
  at_most_16 = at_most 16 (numbered 1 (rules t)) tt

  pub admitted_in_the_document's_words : (broken_rule t ≡ 0) ↔ Admitted t
  admitted_in_the_document's_words =
      let h = every 1 (rules t) (rules_stated t) each in
      (λ e. h.0 (first→holds 0 (numbered 1 (rules t)) tt e).0, λ a. holds→first (numbered 1 (rules t)) (h.1 a))

  pub admitted : broken_rule t ≡ 0 → Admitted t
  admitted = admitted_in_the_document's_words.0

  pub not_admitted : ¬ (broken_rule t ≡ 0) → ¬ Admitted t
  not_admitted n a = n (admitted_in_the_document's_words.1 a)

-- ---- of the contracts
pub old_default : (κs : _) (a : _) (r : _) (at : _) → old_default_reads.Post κs a r at → r ≡ by_old_default
old_default κs a r at p = p

pub new_default : (κs : _) (a : _) (r : _) (at : _) → new_default_reads.Post κs a r at → r ≡ by_new_default
new_default κs a r at p = p

pub house : (κs : _) (a : _) (r : _) (at : _) → house_reads.Post κs a r at → r ≡ by_house
house κs a r at p = p

-- what the three answer is admitted
pub all_three_are_admitted : Admitted by_old_default × Admitted by_new_default × Admitted by_house
all_three_are_admitted = (admitted by_old_default refl, admitted by_new_default refl, admitted by_house refl)

pub broken_rule_lem :
    (κs : _) (a : _) (r : _) (at : _) → broken_rule_reads.Post κs a r at → FirstOf (broken a.0) r × (r ≤ 16)
broken_rule_lem κs a r at p = rw p (in_order a.0, at_most_16 a.0)
