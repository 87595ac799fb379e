-- Document 01, "Step files, parts and writing" and "Numbers for what is refused", and document 02's requests 6 and 7, a second time:
-- when a file and a write are refused, as statements, what a good file holds, and what a refused write leaves. It shares no definition
-- with Bytes.antt, Files.antt, Records.antt and Writing.antt.
-- Assumes nothing.
use Rattle.std.specs.Prelude.{◌≡◌, cond, ◌⊎◌, List, [], ◌∷◌, ℕ, ◌+◌, ◌*◌, ◌≤◌, ◌<◌, eqb, length, get_or, Option, Some, None, Err}
use Rattle.checks.specs.Conditions.{Condition, ◌gives◌, ◌else◌, FirstOf, OneOf}
use Rattle.limits.specs.declared.Table.{Table}
use Rattle.limits.specs.Refusals.{by_old_default, by_new_default, NoDelays, Admitted, broken}
use Rattle.shift.specs.Readings.{Reading}
use Rattle.shift.specs.declared.Misread.TheVariants.{WrongCode}
use Rattle.shift.specs.Refusals.{refusals, Reads}

-- the rule's number: with 4 that of the first rule that the table breaks, else 0
pub record RuleFor (t : Table) (number rule : ℕ) : Type 0 where
  pub with_4 : number ≡ 4 → FirstOf (broken t) rule × (1 ≤ rule) × (rule ≤ 16)
  pub else_0 : ¬ (number ≡ 4) → rule ≡ 0

-- ---- a file

-- little-endian, at a place
abbrev pub bits16 : List ℕ → ℕ → ℕ
bits16 f i = get_or f i 0 + 256 * get_or f (i + 1) 0

abbrev pub bits32 : List ℕ → ℕ → ℕ
bits32 f i = get_or f i 0 + 256 * get_or f (i + 1) 0 + 65536 * get_or f (i + 2) 0 + 16777216 * get_or f (i + 3) 0

-- the eighteen entries behind the header, with four delays
abbrev pub eighteen_behind : List ℕ → ℕ → ℕ → ℕ → ℕ → Table
eighteen_behind f plain_open error_open plain_close error_close = record {
  channel_dl = bits16 f 12;
  engine_sync_dl = bits16 f 14;
  engine_zero_dl = bits16 f 16;
  clutch_open_dl = bits16 f 18;
  clutch_close_dl = bits16 f 20;
  gear_set_dl = bits16 f 22;
  gear_release_dl = bits16 f 24;
  sync_ex = bits16 f 26;
  zero_ex = bits16 f 28;
  sync_dl = bits16 f 30;
  zero_dl = bits16 f 32;
  sync_de = bits16 f 34;
  zero_de = bits16 f 36;
  open_clutch_dl = bits16 f 38;
  set_gear_dl = bits16 f 40;
  release_dl = bits16 f 42;
  close_clutch_dl = bits16 f 44;
  change_dl = bits16 f 46;
  clutch_open_de = plain_open;
  error_clutch_open_de = error_open;
  clutch_close_de = plain_close;
  error_clutch_close_de = error_close;
}

-- with eighteen entries the four delays are 0, with twenty-two they stand behind the others
abbrev pub short_table : List ℕ → Table
short_table f = eighteen_behind f 0 0 0 0

abbrev pub long_table : List ℕ → Table
long_table f = eighteen_behind f (bits16 f 48) (bits16 f 50) (bits16 f 52) (bits16 f 54)

-- as many entries as the header says
abbrev pub table_behind : List ℕ → Table
table_behind f = cond (eqb (bits16 f 2) 22) (long_table f) (short_table f)

-- more records than there may be with so many entries
abbrev pub TooMany : ℕ → ℕ → Type 0
TooMany entries records = (16372 < records) ⊎ ((entries ≡ 22) × (16370 < records))

-- 1, 2, 3, 4; a file without entries has the old default, which is admitted
abbrev pub file_refusals : List ℕ → List Condition
file_refusals f =
    (length f < 12 gives 1)
    ∷ ((bits16 f 0 ≡ 12) else 2)
    ∷ (((bits16 f 2 ≡ 0) ⊎ (bits16 f 2 ≡ 18) ⊎ (bits16 f 2 ≡ 22)) else 2)
    ∷ ((bits32 f 4 ≡ 12 + 2 * bits16 f 2) else 2)
    ∷ (TooMany (bits16 f 2) (bits32 f 8) gives 2)
    ∷ ((length f ≡ 12 + 2 * bits16 f 2 + 4 * bits32 f 8) else 3)
    ∷ ((¬ (bits16 f 2 ≡ 0) → Admitted (table_behind f)) else 4)
    ∷ []

-- what a file is refused with
pub record FileAnswers (f : List ℕ) (number rule : ℕ) : Type 0 where
  pub first : FirstOf (file_refusals f) number
  pub numbers : number ≤ 4
  pub rule_for : RuleFor (table_behind f) number rule

-- where the record at an index stands: behind the header, the table's entries and the records before it
abbrev pub place : List ℕ → ℕ → ℕ
place f index = 12 + 2 * bits16 f 2 + 4 * index

-- a good file with this table and these records: as many as the header says, and each is what its code, its middle byte and its
-- amount mean
pub record FileHolds (f : List ℕ) (t : Table) (records : List Reading) : Type 0 where
  pub without_entries : bits16 f 2 ≡ 0 → t ≡ by_old_default
  pub with_eighteen : bits16 f 2 ≡ 18 → t ≡ short_table f
  pub with_twenty_two : bits16 f 2 ≡ 22 → t ≡ long_table f
  pub count : length records ≡ bits32 f 8
  pub each :
      (i : ℕ) → i < length records
      → Reads (get_or f (place f i) 0) (get_or f (place f i + 1) 0) (bits16 f (place f i + 2)) (get_or records i (Err WrongCode))

-- ---- a write

-- the record at the index is refused with the number, 5 or 6, and every record before it reads; a code and an amount have no middle byte
pub record WrongAt (codes amounts : List ℕ) (number index : ℕ) : Type 0 where
  pub in_list : index < length codes
  pub wrong : FirstOf (refusals (get_or codes index 0) 0 (get_or amounts index 0)) number
  pub before : (i : ℕ) → i < index → FirstOf (refusals (get_or codes i 0) 0 (get_or amounts i 0)) 0

-- the wish for no table means the new default
abbrev pub table_for : Option Table → Table
table_for (Some t) = t
table_for None = by_new_default

-- it is written with so many entries: a table whose four delays are 0 with 18, any other with 22, and the new default with 18
abbrev pub WrittenWith : Option Table → ℕ → Type 0
WrittenWith (Some t) entries = (NoDelays t × (entries ≡ 18)) ⊎ (¬ NoDelays t × (entries ≡ 22))
WrittenWith None entries = entries ≡ 18

-- 3, 2, 4, first record with 5 or 6, 15
abbrev pub write_refusals : Option Table → List ℕ → List ℕ → List ℕ → List Condition
write_refusals wish codes amounts out =
    ((length codes ≡ length amounts) else 3)
    ∷ (((k : ℕ) × WrittenWith wish k × TooMany k (length codes)) gives 2)
    ∷ (Admitted (table_for wish) else 4)
    ∷ (((i : ℕ) × WrongAt codes amounts 5 i) gives 5)
    ∷ (((i : ℕ) × WrongAt codes amounts 6 i) gives 6)
    ∷ (((k : ℕ) × WrittenWith wish k × (length out < 12 + 2 * k + 4 * length codes)) gives 15)
    ∷ []

-- a write that answers a number, a rule, an index and a length, and the buffer after it
pub record WriteAnswers (wish : Option Table) (codes amounts out : List ℕ) (number rule index size : ℕ) (after : List ℕ) : Type 0 where
  pub first : FirstOf (write_refusals wish codes amounts out) number
  pub numbers : OneOf (0 ∷ 2 ∷ 3 ∷ 4 ∷ 5 ∷ 6 ∷ 15 ∷ []) number
  pub rule_for : RuleFor (table_for wish) number rule
  pub index_with_5_and_6 : (number ≡ 5) ⊎ (number ≡ 6) → WrongAt codes amounts number index
  pub index_else_0 : ¬ ((number ≡ 5) ⊎ (number ≡ 6)) → index ≡ 0
  pub unchanged : ¬ (number ≡ 0) → (size ≡ 0) × (after ≡ out)
