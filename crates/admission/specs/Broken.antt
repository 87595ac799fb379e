-- Document 01, "The limit table", and document 02, request 6: whether a table breaks the rule of a number, the sides of the rules that
-- compare two numbers, and the four route sums together.
-- Assumes nothing.
use Rattle.std.specs.Prelude.{Bool, true, not, ◌&&◌, List, [], ◌∷◌, ℕ, ◌+◌, ◌*◌, leb, get_or}
use Rattle.limits.specs.declared.Table.{Table}
use Rattle.limits.specs.Limits.{entry, sum_f, sum_n, sum_g1, sum_g2}
use Rattle.limits.specs.Rules.{rules}
use Rattle.admission.specs.declared.RouteSums.{RouteSums}

-- the table breaks the rule of this number, 1 to 16; there is no other to break
abbrev pub is_broken : Table → ℕ → Bool
is_broken t n = not (get_or (true ∷ rules t) n true)

-- the four route sums
abbrev pub sums_of : Table → RouteSums
sums_of t = record { f = sum_f t; n = sum_n t; g1 = sum_g1 t; g2 = sum_g2 t }

-- the left sides of rules 2 to 15, and 0 where there is none
abbrev pub left_sides : Table → List ℕ
left_sides t =
    0  -- there is no rule 0
    ∷ 0  -- 1
    ∷ (2 * t.channel_dl + t.engine_sync_dl)  -- 2
    ∷ (2 * t.channel_dl + t.engine_zero_dl)  -- 3
    ∷ (2 * t.channel_dl + t.clutch_open_dl)  -- 4
    ∷ (2 * t.channel_dl + t.clutch_close_dl)  -- 5
    ∷ (2 * t.channel_dl + t.gear_set_dl)  -- 6
    ∷ (2 * t.channel_dl + t.gear_release_dl)  -- 7
    ∷ t.sync_ex  -- 8
    ∷ t.zero_ex  -- 9
    ∷ t.sync_de  -- 10
    ∷ t.zero_de  -- 11
    ∷ sum_f t  -- 12
    ∷ sum_n t  -- 13
    ∷ sum_g1 t  -- 14
    ∷ sum_g2 t  -- 15
    ∷ []

abbrev pub left_side : Table → ℕ → ℕ
left_side t n = get_or (left_sides t) n 0

-- the right sides are entries: their numbers, for rules 2 to 15; 22 is no entry, and counts as 0
abbrev pub right_entries : List ℕ
right_entries = 22 ∷ 22 ∷ 7 ∷ 8 ∷ 13 ∷ 16 ∷ 14 ∷ 15 ∷ 11 ∷ 12 ∷ 9 ∷ 10 ∷ 17 ∷ 17 ∷ 17 ∷ 17 ∷ []

abbrev pub right_side : Table → ℕ → ℕ
right_side t n = entry t (get_or right_entries n 22)

-- rules 4 to 9 ask for less, the others of them for no more
abbrev pub is_strict : ℕ → Bool
is_strict n = leb 4 n && leb n 9
