-- `phase_after` meets its contract: each arm by its code, and past them the phase stays.
-- Assumes nothing.
use mathlib.Core.Path.{sym}
use mathlib.Core.List.{[], ◌∷◌}
use lib.ListN.{get_or-eq_default}
use Rattle.checks.proofs.Ranges.{past_arms}
use Rattle.phases.specs.Phases.{error, at_rest, next_of, clutch_of}
use Rattle.trace.proofs.phase_after.Goals as goal

pub returns-in_default : goal.returns-in_default
returns-in_default c =
    let p = c.args.phase in
    sym (get_or-eq_default (p ∷ 1 ∷ 6 ∷ 17 ∷ p ∷ p ∷ p ∷ p ∷ next_of p ∷ clutch_of p ∷ error ∷ at_rest ∷ p ∷ at_rest ∷ []) p (past_arms 14 c.args.code c.in_default.in_default-own.rest))
