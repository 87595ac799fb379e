-- docs/CORPUS.md, "A case": the numbers, the table and the state that stand at a place of a field.
-- Assumes nothing.
use Rattle.std.specs.Prelude.{List, [], ◌∷◌, ℕ, zero, suc, ◌+◌, ◌*◌, get_or}
use Rattle.limits.specs.declared.Table.{Table}
use Rattle.limits.specs.Limits.{table_of}
use Rattle.shift.specs.declared.State.{State}
use Rattle.numbers.specs.Bytes.{u16s_at, u32_at}

-- the number of 64 bits at a place
abbrev pub u64_at : List ℕ → ℕ → ℕ
u64_at l i = u32_at l i + 4294967296 * u32_at l (i + 4)

-- n numbers from a place on, so many bytes apart; of 32 bits
abbrev pub numbers_at : (ℕ → ℕ) → ℕ → ℕ → ℕ → List ℕ
numbers_at read step i zero = []
numbers_at read step i (suc n) = read i ∷ numbers_at read step (i + step) n

abbrev pub u32s_at : List ℕ → ℕ → ℕ → List ℕ
u32s_at l i n = numbers_at (u32_at l) 4 i n

-- a table is its twenty-two entries; a state, its eight fields, stands behind a table
abbrev pub table_at : List ℕ → ℕ → Table
table_at l i = table_of (u16s_at l i 22)

abbrev pub state_in : List ℕ → State
state_in l = record {
  clock = u32_at l 44;
  gear_box = get_or l 48 0;
  phase = get_or l 49 0;
  phase_time = u32_at l 50;
  stage = get_or l 54 0;
  stage_time = u32_at l 55;
  request_time = u32_at l 59;
  failed_phase = get_or l 63 0;
}
