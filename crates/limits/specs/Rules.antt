-- Document 01, "The limit table": the rules of admission, with document 02's rule 16, and the number of the first that a table
-- breaks.
-- Assumes nothing.
use Rattle.std.specs.Prelude.{Bool, true, ◌&&◌, ◌||◌, List, [], ◌∷◌, ◌++◌, ℕ, ◌+◌, ◌*◌, leb, ltb, Result, Ok, Err}
use Rattle.checks.specs.Checks.{first, numbered}
use Rattle.limits.specs.declared.Table.{Table}
use Rattle.limits.specs.declared.Rule.{Rule}
use Rattle.limits.specs.declared.Rule.TheVariants.{Set, SyncEx, ZeroEx, Open, Close, SetGear, Release, SyncDe, ZeroDe, SyncDl, ZeroDl, RouteF, RouteN, RouteG1, RouteG2, Delays}
use Rattle.limits.specs.Limits.{limits, undelayed, sum_f, sum_n, sum_g1, sum_g2}

-- rule 1: each of the first eighteen entries is at least 1
abbrev pub at_least1 : List ℕ → Bool
at_least1 [] = true
at_least1 (x ∷ xs) = leb 1 x && at_least1 xs

abbrev pub set_rule : Table → List Bool
set_rule t = at_least1 (limits t) ∷ []

-- rules 2 and 3: both ways over the channel and the engine's limit within its EX
abbrev pub engine_rules : Table → List Bool
engine_rules t =
    leb (2 * t.channel_dl + t.engine_sync_dl) t.sync_ex
    ∷ leb (2 * t.channel_dl + t.engine_zero_dl) t.zero_ex
    ∷ []

-- rules 4 to 7: both ways and the device's limit below its phase limit
abbrev pub device_rules : Table → List Bool
device_rules t =
    ltb (2 * t.channel_dl + t.clutch_open_dl) t.open_clutch_dl
    ∷ ltb (2 * t.channel_dl + t.clutch_close_dl) t.close_clutch_dl
    ∷ ltb (2 * t.channel_dl + t.gear_set_dl) t.set_gear_dl
    ∷ ltb (2 * t.channel_dl + t.gear_release_dl) t.release_dl
    ∷ []

-- rules 8 to 11: EX before DE, and DE within the phase limit
abbrev pub ask_rules : Table → List Bool
ask_rules t =
    ltb t.sync_ex t.sync_de
    ∷ ltb t.zero_ex t.zero_de
    ∷ leb t.sync_de t.sync_dl
    ∷ leb t.zero_de t.zero_dl
    ∷ []

-- rules 12 to 15: the four route sums within the limit for a whole change
abbrev pub route_rules : Table → List Bool
route_rules t =
    leb (sum_f t) t.change_dl
    ∷ leb (sum_n t) t.change_dl
    ∷ leb (sum_g1 t) t.change_dl
    ∷ leb (sum_g2 t) t.change_dl
    ∷ []

-- rule 16: either all four delays are 0, or both plain ones are at least 1, and each error delay exceeds its plain one and is at most
-- its device limit
abbrev pub waits : ℕ → ℕ → ℕ → Bool
waits plain error device = leb 1 plain && (ltb plain error && leb error device)

abbrev pub delay_rules : Table → List Bool
delay_rules t =
    (undelayed t
    || (waits t.clutch_open_de t.error_clutch_open_de t.clutch_open_dl
    && waits t.clutch_close_de t.error_clutch_close_de t.clutch_close_dl))
    ∷ []

-- rules 1 to 16
abbrev pub rules : Table → List Bool
rules t = set_rule t ++ (engine_rules t ++ (device_rules t ++ (ask_rules t ++ (route_rules t ++ delay_rules t))))

-- 0: the table is admitted; else the number of the first broken rule
abbrev pub broken_rule : Table → ℕ
broken_rule t = first (numbered 1 (rules t))

-- the number of each rule, and what admitting a table answers as that number
abbrev pub number_of : Rule → ℕ
number_of Set = 1
number_of SyncEx = 2
number_of ZeroEx = 3
number_of Open = 4
number_of Close = 5
number_of SetGear = 6
number_of Release = 7
number_of SyncDe = 8
number_of ZeroDe = 9
number_of SyncDl = 10
number_of ZeroDl = 11
number_of RouteF = 12
number_of RouteN = 13
number_of RouteG1 = 14
number_of RouteG2 = 15
number_of Delays = 16

abbrev pub broken_in : Result (Unit {0}) Rule → ℕ
broken_in (Ok u) = 0
broken_in (Err r) = number_of r
