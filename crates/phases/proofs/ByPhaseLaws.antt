-- The phase table and its limits, and their second wording by phase, are one: in each of the phases 1 to 21.
-- Assumes nothing.
use mathlib.Core.Path.{◌≡◌, sym, subst}
use mathlib.Core.Logic.{inl, inr, ⊎_elim}
use mathlib.Core.List.{List, [], ◌∷◌}
use Prim.Native.Nat.{ℕ, ◌≤◌, ◌<◌}
use native.Mathlib.Omega.{arith}
use lib.Dec.{T, eqb, eqb→eq}
use borrow.Author.Tests.{eqb-true, eqb-false}
use Rattle.checks.specs.Conditions.{OneOf}
use Rattle.checks.proofs.Tests.{case, either}
use Rattle.checks.specs.Ranges.{From}
use Rattle.checks.proofs.Ranges.{from}
use Rattle.limits.specs.declared.Table.{Table}
use Rattle.phases.specs.Phases.{order_of, next_of, clutch_of, device_limit, phase_limit, latest_take, earliest_ask, plain_delay, error_delay, engine, clutch_order}
use Rattle.phases.specs.ByPhase.{set_phases, release_phases, engine_phases, open_or_close_phases, has, device_limit_in, phase_limit_in, ex_in, de_in, plain_delay_in, error_delay_in, next_phase, clutch_phase}

module _ (t : Table) where
  pub device_limit_in_lem : (p : ℕ) → 1 ≤ p → p < 22 → device_limit t (order_of p) ≡ device_limit_in t p
  device_limit_in_lem = from _ 1 21 (omega arith)

  pub phase_limit_in_lem : (p : ℕ) → 1 ≤ p → p < 22 → phase_limit t (order_of p) ≡ phase_limit_in t p
  phase_limit_in_lem = from _ 1 21 (omega arith)

  pub ex_in_lem : (p : ℕ) → 1 ≤ p → p < 22 → latest_take t (order_of p) ≡ ex_in t p
  ex_in_lem = from _ 1 21 (omega arith)

  pub de_in_lem : (p : ℕ) → 1 ≤ p → p < 22 → earliest_ask t (order_of p) ≡ de_in t p
  de_in_lem = from _ 1 21 (omega arith)

  pub plain_delay_in_lem : (p : ℕ) → 1 ≤ p → p < 22 → plain_delay t (order_of p) ≡ plain_delay_in t p
  plain_delay_in_lem = from _ 1 21 (omega arith)

  pub error_delay_in_lem : (p : ℕ) → 1 ≤ p → p < 22 → error_delay t (order_of p) ≡ error_delay_in t p
  error_delay_in_lem = from _ 1 21 (omega arith)

pub next_in : (p : ℕ) → 1 ≤ p → p < 22 → next_of p ≡ next_phase p
next_in = from _ 1 21 (omega arith)

pub clutch_in : (p : ℕ) → 1 ≤ p → p < 22 → clutch_of p ≡ clutch_phase p
clutch_in = from _ 1 21 (omega arith)

-- ---- the phases of an order
-- a phase that a list has is one of it; a phase is one of a list or it is not; what each of a list has, one of it has
pub found : (ps : List ℕ) (p : ℕ) → T (has ps p) → OneOf ps p
found [] p h = absurd h
found (q ∷ qs) p h = ⊎_elim (λ e. inl (eqb→eq p q e)) (λ r. inr (found qs p r)) (either (eqb p q) (has qs p) h)

pub among : {A : Type 0} (ps : List ℕ) (p : ℕ) → (OneOf ps p → A) → (¬ OneOf ps p → A) → A
among [] p f g = g (λ h. h)
among (q ∷ qs) p f g =
    case (eqb p q)
    (λ e. f (inl (eqb-true p q e)))
    (λ e. among qs p (λ r. f (inr r)) (λ n. g (⊎_elim (eqb-false p q e) n)))

abbrev pub Each : (ℕ → Type 0) → List ℕ → Type 0
Each P [] = Unit {0}
Each P (q ∷ qs) = P q × Each P qs

pub each : (P : ℕ → Type 0) (ps : List ℕ) → Each P ps → (p : ℕ) → OneOf ps p → P p
each P [] a p h = absurd h
each P (q ∷ qs) a p h = ⊎_elim (λ e. subst P (sym e) a.0) (λ r. each P qs a.1 p r) h

in_list : (p : ℕ) → 1 ≤ p → p < 22 → T (engine p) → T (has engine_phases p)
in_list = from _ 1 21 (omega arith)

pub engine_in : (p : ℕ) → 1 ≤ p → p < 22 → T (engine p) → OneOf engine_phases p
engine_in p l m h = found engine_phases p (in_list p l m h)

pub engine_of : (p : ℕ) → OneOf engine_phases p → T (engine p) × (1 ≤ p) × (p ≤ 21)
engine_of = each _ engine_phases (omega arith)

-- the phases of the clutch's orders
in_clutch_list : (p : ℕ) → 1 ≤ p → p < 22 → T (clutch_order p) → T (has open_or_close_phases p)
in_clutch_list = from _ 1 21 (omega arith)

pub open_or_close_in : (p : ℕ) → 1 ≤ p → p < 22 → T (clutch_order p) → OneOf open_or_close_phases p
open_or_close_in p l m h = found open_or_close_phases p (in_clutch_list p l m h)

pub open_or_close_of : (p : ℕ) → OneOf open_or_close_phases p → T (clutch_order p) × (1 ≤ p) × (p ≤ 21)
open_or_close_of = each _ open_or_close_phases (omega arith)

-- the phases of an order, by the order's number
of_order :
    (ps : List ℕ) (o : ℕ) → From (λ k. order_of k ≡ o → T (has ps k)) 1 21 → (p : ℕ) → 1 ≤ p → p < 22 → order_of p ≡ o → OneOf ps p
of_order ps o each p l m h = found ps p (from (λ k. order_of k ≡ o → T (has ps k)) 1 21 each p l m h)

pub set_in : (p : ℕ) → 1 ≤ p → p < 22 → order_of p ≡ 5 → OneOf set_phases p
set_in = of_order set_phases 5 (omega arith)

pub release_in : (p : ℕ) → 1 ≤ p → p < 22 → order_of p ≡ 6 → OneOf release_phases p
release_in = of_order release_phases 6 (omega arith)
