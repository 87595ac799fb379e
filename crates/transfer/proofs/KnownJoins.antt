-- Document 01, "Numbers for what is refused": joins that can be followed by hand, with three bytes held in a buffer of five: each
-- number, the order of the numbers, and each way in which a part is accepted.
-- Assumes nothing.
use mathlib.Core.Path.{◌≡◌, refl}
use mathlib.Core.List.{List, [], ◌∷◌}
use Prim.Native.Nat.{ℕ}
use Rattle.transfer.specs.Join.{Joined, joined, buffer_after}

abbrev pub buffer : List ℕ
buffer = 11 ∷ 12 ∷ 13 ∷ 90 ∷ 91 ∷ []

abbrev pub gives : ℕ → ℕ → Joined
gives n count = record { number = n; held = count }

-- more held than the buffer has: 15, even for an empty part at offset 0, and before 14
pub no_room_for_held : joined buffer 6 0 [] ≡ gives 15 6
no_room_for_held = refl

pub held_before_offset : joined buffer 6 7 [] ≡ gives 15 6
held_before_offset = refl

-- a part that begins beyond the bytes held: 14, even if empty, and before 15; also at the largest offset there is
pub gap : joined buffer 3 4 [] ≡ gives 14 3
gap = refl

pub gap_before_no_room : joined buffer 3 18446744073709551615 (14 ∷ []) ≡ gives 14 3
gap_before_no_room = refl

-- a part that does not fit: 15, even if the overlap differs
pub no_room : joined buffer 3 3 (14 ∷ 15 ∷ 16 ∷ []) ≡ gives 15 3
no_room = refl

pub no_room_before_overlap : joined buffer 3 2 (99 ∷ 14 ∷ 15 ∷ 16 ∷ []) ≡ gives 15 3
no_room_before_overlap = refl

-- an overlap that differs, in a part that reaches further and in one that ends inside
pub overlap : (joined buffer 3 1 (12 ∷ 99 ∷ 14 ∷ []) ≡ gives 16 3) × (buffer_after buffer 3 1 (12 ∷ 99 ∷ 14 ∷ []) ≡ buffer)
overlap = (refl, refl)

pub overlap_inside : joined buffer 3 0 (11 ∷ 99 ∷ []) ≡ gives 16 3
overlap_inside = refl

-- accepted: resumed one byte back, at the end of what is held, inside it, and empty
pub resumed :
    (joined buffer 3 2 (13 ∷ 14 ∷ []) ≡ gives 0 4) × (buffer_after buffer 3 2 (13 ∷ 14 ∷ []) ≡ 11 ∷ 12 ∷ 13 ∷ 14 ∷ 91 ∷ [])
resumed = (refl, refl)

pub next :
    (joined buffer 3 3 (14 ∷ 15 ∷ []) ≡ gives 0 5) × (buffer_after buffer 3 3 (14 ∷ 15 ∷ []) ≡ 11 ∷ 12 ∷ 13 ∷ 14 ∷ 15 ∷ [])
next = (refl, refl)

pub again : (joined buffer 3 0 (11 ∷ 12 ∷ []) ≡ gives 0 3) × (buffer_after buffer 3 0 (11 ∷ 12 ∷ []) ≡ buffer)
again = (refl, refl)

pub nothing : (joined buffer 3 1 [] ≡ gives 0 3) × (buffer_after buffer 3 1 [] ≡ buffer)
nothing = (refl, refl)
