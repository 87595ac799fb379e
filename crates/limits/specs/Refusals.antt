-- Document 01, "The limit table", and document 02's requests 6 and 7, a second time: the two defaults and the house's table by name, the
-- sixteen rules as statements, when a table is admitted, and which rule it breaks. It shares no definition with Limits.antt and Rules.antt.
-- Assumes nothing.
use Rattle.std.specs.Prelude.{◌≡◌, ◌⊎◌, List, [], ◌∷◌, ℕ, suc, ◌+◌, ◌*◌, ◌≤◌, ◌<◌}
use Rattle.checks.specs.Conditions.{Condition, ◌else◌}
use Rattle.limits.specs.declared.Table.{Table}

-- the seventeen limits that all three have, with this time of the channel and these delays
abbrev pub limits_with : ℕ → ℕ → ℕ → ℕ → ℕ → Table
limits_with channel plain_open error_open plain_close error_close = record {
  channel_dl = channel;
  engine_sync_dl = 100;
  engine_zero_dl = 200;
  clutch_open_dl = 150;
  clutch_close_dl = 150;
  gear_set_dl = 300;
  gear_release_dl = 200;
  sync_ex = 150;
  zero_ex = 250;
  sync_dl = 155;
  zero_dl = 255;
  sync_de = 151;
  zero_de = 251;
  open_clutch_dl = 200;
  set_gear_dl = 350;
  release_dl = 250;
  close_clutch_dl = 200;
  change_dl = 1500;
  clutch_open_de = plain_open;
  error_clutch_open_de = error_open;
  clutch_close_de = plain_close;
  error_clutch_close_de = error_close;
}

-- for files without a table; for what is handed out now; and that for clutches that cannot answer at once
abbrev pub by_old_default : Table
by_old_default = limits_with 5 0 0 0 0

abbrev pub by_new_default : Table
by_new_default = limits_with 10 0 0 0 0

abbrev pub by_house : Table
by_house = limits_with 10 20 60 20 60

-- all of a list of statements
abbrev pub All : List (Type 0) → Type 0
All [] = Unit {0}
All (P ∷ Ps) = P × All Ps

-- rule 1: each of the first eighteen entries is at least 1
abbrev pub positive : Table → List (Type 0)
positive t =
    (1 ≤ t.channel_dl)
    ∷ (1 ≤ t.engine_sync_dl)
    ∷ (1 ≤ t.engine_zero_dl)
    ∷ (1 ≤ t.clutch_open_dl)
    ∷ (1 ≤ t.clutch_close_dl)
    ∷ (1 ≤ t.gear_set_dl)
    ∷ (1 ≤ t.gear_release_dl)
    ∷ (1 ≤ t.sync_ex)
    ∷ (1 ≤ t.zero_ex)
    ∷ (1 ≤ t.sync_dl)
    ∷ (1 ≤ t.zero_dl)
    ∷ (1 ≤ t.sync_de)
    ∷ (1 ≤ t.zero_de)
    ∷ (1 ≤ t.open_clutch_dl)
    ∷ (1 ≤ t.set_gear_dl)
    ∷ (1 ≤ t.release_dl)
    ∷ (1 ≤ t.close_clutch_dl)
    ∷ (1 ≤ t.change_dl)
    ∷ []

-- rule 16: no delay at all, or delays of both clutch orders
pub record NoDelays (t : Table) : Type 0 where
  pub plain_open : t.clutch_open_de ≡ 0
  pub error_open : t.error_clutch_open_de ≡ 0
  pub plain_close : t.clutch_close_de ≡ 0
  pub error_close : t.error_clutch_close_de ≡ 0

pub record BothDelayed (t : Table) : Type 0 where
  pub plain_open : 1 ≤ t.clutch_open_de
  pub plain_close : 1 ≤ t.clutch_close_de
  pub exceeds_open : t.clutch_open_de < t.error_clutch_open_de
  pub exceeds_close : t.clutch_close_de < t.error_clutch_close_de
  pub within_open : t.error_clutch_open_de ≤ t.clutch_open_dl
  pub within_close : t.error_clutch_close_de ≤ t.clutch_close_dl

-- rules 1 to 16
abbrev pub rules_stated : Table → List (Type 0)
rules_stated t =
    let ch = t.channel_dl in
    let change = t.change_dl in
    let f = t.sync_dl + t.open_clutch_dl + t.set_gear_dl + t.close_clutch_dl in
    All (positive t)
    ∷ (2 * ch + t.engine_sync_dl ≤ t.sync_ex)
    ∷ (2 * ch + t.engine_zero_dl ≤ t.zero_ex)
    ∷ (2 * ch + t.clutch_open_dl < t.open_clutch_dl)
    ∷ (2 * ch + t.clutch_close_dl < t.close_clutch_dl)
    ∷ (2 * ch + t.gear_set_dl < t.set_gear_dl)
    ∷ (2 * ch + t.gear_release_dl < t.release_dl)
    ∷ (t.sync_ex < t.sync_de)
    ∷ (t.zero_ex < t.zero_de)
    ∷ (t.sync_de ≤ t.sync_dl)
    ∷ (t.zero_de ≤ t.zero_dl)
    ∷ (f ≤ change)
    ∷ (t.zero_dl + t.open_clutch_dl + t.release_dl + t.close_clutch_dl ≤ change)
    ∷ (t.zero_ex + t.release_dl + f ≤ change)
    ∷ (t.zero_dl + t.open_clutch_dl + t.release_dl + t.set_gear_dl + t.close_clutch_dl ≤ change)
    ∷ (NoDelays t ⊎ BothDelayed t)
    ∷ []

abbrev pub Admitted : Table → Type 0
Admitted t = All (rules_stated t)

-- the rules that a table may break, by their numbers
abbrev pub broken_from : ℕ → List (Type 0) → List Condition
broken_from n [] = []
broken_from n (P ∷ Ps) = ◌else◌ P n ∷ broken_from (suc n) Ps

abbrev pub broken : Table → List Condition
broken t = broken_from 1 (rules_stated t)
