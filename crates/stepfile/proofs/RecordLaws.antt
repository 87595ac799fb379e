-- Laws on the records of a part: the one at a place and those after it, none where fewer than four bytes are left, and the one at an
-- index.
-- Assumes nothing.
use mathlib.Core.Path.{◌≡◌, refl, ◌∙◌}
use mathlib.Core.List.{List, [], ◌∷◌}
use Prim.Native.Nat.{ℕ, zero, suc, ◌+◌, ◌*◌, ◌≤◌, ◌<◌}
use native.Mathlib.Numerals.{towards_suc}
use native.Mathlib.Omega.{arith}
use lib.ListN.{length, get_or, drop, length-drop}
use lib.Seq.{drop-cons}
use Rattle.std.specs.Prelude.{Err}
use Rattle.shift.specs.Readings.{Reading}
use Rattle.shift.specs.declared.Misread.TheVariants.{WrongCode}
use Rattle.stepfile.specs.Records.{record_of, records_in}

-- the record at a place of a part
abbrev pub record_at : List ℕ → ℕ → Reading
record_at l i = record_of (get_or l i 0) (get_or l (i + 1) 0) (get_or l (i + 2) 0) (get_or l (i + 3) 0)

pub one_more : (l : List ℕ) (i : ℕ) → i + 3 < length l → records_in (drop i l) ≡ record_at l i ∷ records_in (drop (i + 4) l)
one_more l i h =
    let a = drop-cons l i 0 (omega arith) in
    let b = drop-cons l (suc i) 0 (omega arith) in
    let c = drop-cons l (suc (suc i)) 0 (omega arith) in
    let d = drop-cons l (suc (suc (suc i))) 0 (omega arith) in
    rw (a, b, c, d) (simp towards_suc)

-- fewer than four bytes are no record
short : (l : List ℕ) → length l < 4 → records_in l ≡ []
short [] h = refl
short (a ∷ []) h = refl
short (a ∷ b ∷ []) h = refl
short (a ∷ b ∷ c ∷ []) h = refl
short (a ∷ b ∷ c ∷ d ∷ l) h = absurd (omega arith)

pub no_more : (l : List ℕ) (i : ℕ) → length l ≤ i + 3 → records_in (drop i l) ≡ []
no_more l i h = short (drop i l) (simp length-drop (omega arith))

-- the record at an index stands at four times that place
pub record_in : (l : List ℕ) (i : ℕ) → i < length (records_in l) → get_or (records_in l) i (Err WrongCode) ≡ record_at l (4 * i)
record_in [] i h = absurd (omega arith)
record_in (a ∷ []) i h = absurd (omega arith)
record_in (a ∷ b ∷ []) i h = absurd (omega arith)
record_in (a ∷ b ∷ c ∷ []) i h = absurd (omega arith)
record_in (a ∷ b ∷ c ∷ d ∷ l) zero h = refl
record_in (a ∷ b ∷ c ∷ d ∷ l) (suc i) h =
    let there : 4 * suc i ≡ suc (suc (suc (suc (4 * i)))) = omega arith in
    record_in l i (omega arith) ∙ rw there (simp towards_suc)
