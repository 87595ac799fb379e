-- The names of the entries: the manual's, and document 01's for entries 11, 12 and 17.
-- Assumes nothing.
use Rattle.std.specs.Prelude.{Bool, true, false, cond, ◌&&◌, List, [], ◌∷◌, ℕ, suc, eqb, ltb, get_or, map, Option, Some, None}
use denote.Ref.{Bor}
use Rattle.line.specs.Ascii.{ascii}

-- by entry number, 0 to 21
abbrev pub names : List (List ℕ)
names =
    ascii "Channel_DL"
    ∷ ascii "Engine_Sync_DL"
    ∷ ascii "Engine_Zero_DL"
    ∷ ascii "Clutch_Open_DL"
    ∷ ascii "Clutch_Close_DL"
    ∷ ascii "Gear_Set_DL"
    ∷ ascii "Gear_Release_DL"
    ∷ ascii "Sync_EX"
    ∷ ascii "Zero_EX"
    ∷ ascii "Sync_DL"
    ∷ ascii "Zero_DL"
    ∷ ascii "Sync_DE"
    ∷ ascii "Zero_DE"
    ∷ ascii "OpenClutch_DL"
    ∷ ascii "SetGear_DL"
    ∷ ascii "Release_DL"
    ∷ ascii "CloseClutch_DL"
    ∷ ascii "ChangeDL"
    ∷ ascii "Clutch_Open_DE"
    ∷ ascii "Error_Clutch_Open_DE"
    ∷ ascii "Clutch_Close_DE"
    ∷ ascii "Error_Clutch_Close_DE"
    ∷ []

-- no name, and of no bytes, for a number that is no entry's
abbrev pub name : ℕ → List ℕ
name i = get_or names i []

-- two words are the same, byte for byte
abbrev pub same : List ℕ → List ℕ → Bool
same [] [] = true
same [] (y ∷ ys) = false
same (x ∷ xs) [] = false
same (x ∷ xs) (y ∷ ys) = eqb x y && same xs ys

-- the place of a word in a list, the list's length where it is not there
abbrev pub place : List ℕ → List (List ℕ) → ℕ
place w [] = 0
place w (n ∷ ns) = cond (same w n) 0 (suc (place w ns))

-- the number of the entry that a word names, 22 where it names none
unfoldable pub entry_named : List ℕ → ℕ
entry_named w = place w names

-- that number as it is answered: an entry, or none
abbrev pub an_entry : ℕ → Option ℕ
an_entry i = cond (ltb i 22) (Some i) None

-- the words that a list of lent words lends
abbrev pub contents : List (Bor (List ℕ)) → List (List ℕ)
contents = map (λ n. n.now)
