-- Document 01, "Step files, parts and writing": little-endian numbers of 16 and 32 bits, read and written.
-- Assumes nothing.
use Rattle.std.specs.Prelude.{List, [], ◌∷◌, ℕ, zero, suc, ◌+◌, ◌*◌, ◌/◌, ◌%◌, get_or}

-- the number of 16 bits, and that of 32, at a place
abbrev pub u16_at : List ℕ → ℕ → ℕ
u16_at l i = get_or l i 0 + 256 * get_or l (i + 1) 0

abbrev pub u32_at : List ℕ → ℕ → ℕ
u32_at l i = u16_at l i + 65536 * u16_at l (i + 2)

-- n numbers of 16 bits from a place on
abbrev pub u16s_at : List ℕ → ℕ → ℕ → List ℕ
u16s_at l i zero = []
u16s_at l i (suc n) = u16_at l i ∷ u16s_at l (i + 2) n

-- the bytes of numbers of 16 bits
abbrev pub bytes_of : List ℕ → List ℕ
bytes_of [] = []
bytes_of (n ∷ ns) = n % 256 ∷ n / 256 ∷ bytes_of ns

-- a number of 32 bits as two of 16, in front of others
abbrev pub halves : ℕ → List ℕ → List ℕ
halves n ns = n % 65536 ∷ n / 65536 ∷ ns
