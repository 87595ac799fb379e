-- docs/CORPUS.md, "A case": the lengths of the fields of each kind.
-- Assumes nothing.
use Rattle.std.specs.Prelude.{Bool, false, ◌&&◌, List, [], ◌∷◌, ℕ, ◌%◌, leb, eqb, get_or}

-- by kind, from 0
abbrev pub lengths : ℕ → ℕ → ℕ → List Bool
lengths a b c =
    false
    ∷ (eqb a 44 && eqb b 0 && eqb c 0)
    ∷ (eqb a 69 && eqb b 0 && eqb c 0)
    ∷ (eqb a 68 && eqb b 0 && eqb c 0)
    ∷ (eqb a 0 && eqb c 0)
    ∷ (eqb a 0 && eqb c 0)
    ∷ eqb a 0
    ∷ eqb a 16
    ∷ (leb 45 a && leb a 66000 && eqb (a % 4) 1)
    ∷ (eqb a 44 && eqb (b % 4) 0 && eqb c 0)
    ∷ (eqb a 64 && eqb c 0)
    ∷ eqb a 0
    ∷ (eqb a 8 && eqb c 0)
    ∷ eqb a 76
    ∷ (eqb a 0 && eqb c 0)
    ∷ (eqb a 88 && eqb b 0 && eqb c 0)
    ∷ (eqb a 44 && eqb b 0 && eqb c 0)
    ∷ (eqb a 44 && eqb b 0 && eqb c 0)
    ∷ []

abbrev pub sized : ℕ → ℕ → ℕ → ℕ → Bool
sized kind a b c = get_or (lengths a b c) kind false
