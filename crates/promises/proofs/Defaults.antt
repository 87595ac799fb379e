-- Document 02, request 7: whatever the old default accepts, the new default accepts too, with the same end. Drawn from demand 3.
-- Assumes nothing.
use mathlib.Core.Path.{◌≡◌, refl}
use mathlib.Core.List.{List}
use native.Mathlib.Omega.{arith}
use Rattle.limits.specs.Refusals.{by_old_default, by_new_default}
use Rattle.limits.specs.Tighter.{NowhereTighter}
use Rattle.shift.specs.Readings.{Reading}
use Rattle.shift.specs.States.{start}
use Rattle.shift.specs.Runs.{run}
use Rattle.promises.proofs.Promises.{accepted_by_a_looser_table}

pub the_new_default_is_nowhere_tighter : NowhereTighter by_old_default by_new_default
the_new_default_is_nowhere_tighter =
    record { limits = omega arith; delays = omega arith; phases = omega arith; clutches = omega arith }

pub accepted_by_the_new_default :
    (rs : List Reading) → (run by_old_default start rs).number ≡ 0 → run by_new_default start rs ≡ run by_old_default start rs
accepted_by_the_new_default = accepted_by_a_looser_table by_old_default by_new_default refl refl the_new_default_is_nowhere_tighter
