-- Both defaults and the house's table: the first tighter entry from one to the other, their route sums, and a table that breaks rules 2,
-- 14 and 16 at once.
-- Assumes nothing.
use mathlib.Core.Path.{◌≡◌, refl}
use mathlib.Core.Bool.{true, false}
use mathlib.Core.List.{[], ◌∷◌, map}
use Rattle.limits.specs.declared.Table.{Table}
use Rattle.limits.specs.Limits.{table_of}
use Rattle.limits.specs.Refusals.{by_old_default, by_new_default, by_house}
use Rattle.admission.specs.FirstTighter.{first_tighter}
use Rattle.admission.specs.Broken.{is_broken, sums_of, left_side, right_side}

-- from the old default to the new one, back, to the house's and back
pub known_first_tighter_entries :
    (first_tighter by_old_default by_new_default ≡ 22)
    × (first_tighter by_new_default by_old_default ≡ 0)
    × (first_tighter by_new_default by_house ≡ 18)
    × (first_tighter by_house by_new_default ≡ 22)
known_first_tighter_entries = (refl, refl, refl, refl)

pub known_sums : sums_of by_old_default ≡ record { f = 905; n = 905; g1 = 1405; g2 = 1255 }
known_sums = refl

-- Engine_Sync_DL 131 and a Channel_DL of 10, ChangeDL 1404, and a plain delay without the others
abbrev pub three_broken : Table
three_broken =
    table_of (10 ∷ 131 ∷ 200 ∷ 150 ∷ 150 ∷ 300 ∷ 200 ∷ 150 ∷ 250 ∷ 155 ∷ 255 ∷ 151 ∷ 251 ∷ 200 ∷ 350 ∷ 250 ∷ 200 ∷ 1404 ∷ 20 ∷ [])

pub known_broken_rules :
    map (is_broken three_broken) (1 ∷ 2 ∷ 3 ∷ 4 ∷ 5 ∷ 6 ∷ 7 ∷ 8 ∷ 9 ∷ 10 ∷ 11 ∷ 12 ∷ 13 ∷ 14 ∷ 15 ∷ 16 ∷ [])
    ≡ false ∷ true ∷ false ∷ false ∷ false ∷ false ∷ false ∷ false ∷ false ∷ false ∷ false ∷ false ∷ false ∷ true ∷ false ∷ true ∷ []
known_broken_rules = refl

pub known_sides :
    (left_side three_broken 2 ≡ 151) × (right_side three_broken 2 ≡ 150) × (left_side three_broken 14 ≡ 1405) × (right_side three_broken 14 ≡ 1404)
known_sides = (refl, refl, refl, refl)
