-- A line of a text: its words, and the number that a word is.
-- Assumes nothing.
use Rattle.std.specs.Prelude.{Bool, true, false, not, cond, ◌&&◌, ◌||◌, List, [], ◌∷◌, ℕ, ◌+◌, ◌-◌, ◌*◌, ◌≤◌, ◌<◌, leb, eqb, length, get_or, Option, Some, None, Result, Ok, Err}
use Rattle.tablewords.specs.declared.Class.{Class}
use Rattle.tablewords.specs.declared.Class.TheVariants.{Blank, Letter, Inline}
use Rattle.tablewords.specs.declared.NoNumber.{NoNumber}
use Rattle.tablewords.specs.declared.NoNumber.TheVariants.{Above, NotDigits}

-- ---- the bytes of a text: space, tab and carriage return are blanks; a line feed ends a line, and # begins a comment; every other byte
-- stands in a word
abbrev pub line_feed : ℕ
line_feed = 10

abbrev pub comment : ℕ
comment = 35

abbrev pub blank : ℕ → Bool
blank b = eqb b 32 || (eqb b 9 || eqb b 13)

abbrev pub holds : Class → ℕ → Bool
holds Blank b = blank b
holds Letter b = not (blank b) && (not (eqb b line_feed) && not (eqb b comment))
holds Inline b = not (eqb b line_feed)

-- the first bytes of a list, as long as they are of a class, and what stands from the first other byte on
abbrev pub leading : Class → List ℕ → List ℕ
leading c [] = []
leading c (b ∷ bs) = cond (holds c b) (b ∷ leading c bs) []

abbrev pub past : Class → List ℕ → List ℕ
past c [] = []
past c (b ∷ bs) = cond (holds c b) (past c bs) (b ∷ bs)

-- so many first bytes of a list: a test answers true of each of them, and false of the next one, where there is one
pub record Run (answers : ℕ → Bool → Type 0) (l : List ℕ) (n : ℕ) : Type 0 where
  pub within : n ≤ length l
  pub held : (i : ℕ) → i < n → answers (get_or l i 0) true
  pub ended : n < length l → answers (get_or l n 0) false

-- ---- the first word of a line, none where the line or its comment comes first, and what stands behind it
abbrev pub word : List ℕ → List ℕ
word l = leading Letter (past Blank l)

abbrev pub behind : List ℕ → List ℕ
behind l = past Letter (past Blank l)

-- ---- the number that a word is, in decimal: at most 65,535, or that it is above, or that it is none
abbrev pub above : ℕ
above = 65536

abbrev pub none : ℕ
none = 65537

abbrev pub digit : ℕ → Bool
digit b = leb 48 b && leb b 57

abbrev pub all_digits : List ℕ → Bool
all_digits [] = true
all_digits (b ∷ bs) = digit b && all_digits bs

-- the value of digits behind those of a value
abbrev pub value_from : ℕ → List ℕ → ℕ
value_from v [] = v
value_from v (b ∷ bs) = value_from (v * 10 + (b - 48)) bs

abbrev pub capped : ℕ → ℕ
capped v = cond (leb v 65535) v above

abbrev pub number_of : List ℕ → ℕ
number_of w = cond (eqb (length w) 0) none (cond (all_digits w) (capped (value_from 0 w)) none)

-- what is answered of that number: itself, or why there is none
abbrev pub as_number : ℕ → Result ℕ NoNumber
as_number v = cond (leb v 65535) (Ok v) (cond (eqb v above) (Err Above) (Err NotDigits))

-- a value that 16 bits hold
abbrev pub fitting : ℕ → Option ℕ
fitting v = cond (leb v 65535) (Some v) None
