-- What "nowhere tighter" says of the limits by name, where larger is looser and where smaller is.
-- Assumes nothing.
use Prim.Native.Nat.{◌≤◌}
use native.Mathlib.Omega.{arith}
use Rattle.limits.specs.declared.Table.{Table}
use Rattle.limits.specs.Tighter.{NowhereTighter}

module _ (t u : Table) (l : NowhereTighter t u) where
  pub later_takes : (t.sync_ex ≤ u.sync_ex) × (t.zero_ex ≤ u.zero_ex)
  later_takes = omega arith

  pub sooner_asks : (u.sync_de ≤ t.sync_de) × (u.zero_de ≤ t.zero_de)
  sooner_asks = omega arith

  -- the delays of the clutch, plain and error, opening and closing
  pub sooner_reports :
      (u.clutch_open_de ≤ t.clutch_open_de) × (u.error_clutch_open_de ≤ t.error_clutch_open_de)
      × (u.clutch_close_de ≤ t.clutch_close_de) × (u.error_clutch_close_de ≤ t.error_clutch_close_de)
  sooner_reports = omega arith
