-- A limit table as text: one entry a line, its name and its milliseconds, in any order, with blank lines and comments; eighteen names, or
-- all twenty-two. What any text says: a table, or the first place that is wrong.
-- Assumes nothing.
use Rattle.std.specs.Prelude.{Bool, cond, ◌&&◌, List, [], ◌∷◌, map, ℕ, suc, leb, ltb, eqb, length, get_or, set, replicate}
use Rattle.checks.specs.Checks.{Check, ◌!◌, first}
use Rattle.limits.specs.Limits.{table_of}
use Rattle.tabletext.specs.Answers.{Said, Nothing, Unnamed, Entry, Text, Says, Wrong}
use Rattle.tablewords.specs.Words.{line_feed, above, none, word, behind, number_of}
use Rattle.tablewords.specs.Names.{entry_named}

-- ---- the lines of a text: as many as it has line feeds, and one more
abbrev pub onto : ℕ → List (List ℕ) → List (List ℕ)
onto b [] = (b ∷ []) ∷ []
onto b (l ∷ ls) = (b ∷ l) ∷ ls

abbrev pub lines : List ℕ → List (List ℕ)
lines [] = [] ∷ []
lines (b ∷ bs) = cond (eqb b line_feed) ([] ∷ lines bs) (onto b (lines bs))

-- ---- what a line says: nothing where it has no word; else its first word is a name, and the only other one a number
abbrev pub number_behind : List ℕ → ℕ
number_behind l = cond (eqb (length (word (behind l))) 0) (number_of (word l)) none

abbrev pub named : ℕ → ℕ → Said
named i v = cond (eqb i 22) Unnamed (Entry i v)

unfoldable pub line_of : List ℕ → Said
line_of l = cond (eqb (length (word l)) 0) Nothing (named (entry_named (word l)) (number_behind (behind l)))

-- ---- the entries that the lines so far have given, by number
abbrev pub not_given : ℕ
not_given = 65536

abbrev pub nothing_given : List ℕ
nothing_given = replicate 22 not_given

-- what is wrong with a line: 1 its first word is no name; else, by what was given before and its value, 2 the name was given before, 3 behind
-- it is no number, 4 one above 65,535
abbrev pub entry_checks : ℕ → ℕ → List Check
entry_checks before v = (eqb before not_given ! 2) ∷ (leb v above ! 3) ∷ (leb v 65535 ! 4) ∷ []

abbrev pub fault_of : List ℕ → Said → ℕ
fault_of given Nothing = 0
fault_of given Unnamed = 1
fault_of given (Entry i v) = first (entry_checks (get_or given i 0) v)

abbrev pub entry_in : Said → ℕ
entry_in Nothing = 0
entry_in Unnamed = 0
entry_in (Entry i v) = i

abbrev pub with_line : List ℕ → Said → List ℕ
with_line given Nothing = given
with_line given Unnamed = given
with_line given (Entry i v) = set given i v

-- ---- 5: a name is missing at the end, the first of eighteen, or of twenty-two where one of the last four is there
abbrev pub absent_from : ℕ → List ℕ → ℕ
absent_from i [] = i
absent_from i (v ∷ vs) = cond (eqb v not_given) i (absent_from (suc i) vs)

abbrev pub undelayed : ℕ → ℕ → ℕ → ℕ → Bool
undelayed plain_open error_open plain_close error_close =
    eqb plain_open not_given && (eqb error_open not_given && (eqb plain_close not_given && eqb error_close not_given))

abbrev pub wanted : List ℕ → ℕ
wanted given = cond (undelayed (get_or given 18 0) (get_or given 19 0) (get_or given 20 0) (get_or given 21 0)) 18 22

abbrev pub missing : List ℕ → ℕ
missing given = cond (ltb (absent_from 0 given) (wanted given)) (absent_from 0 given) 22

-- ---- the table, or the number of what is wrong first, with its line and its entry
abbrev pub wrong : ℕ → ℕ → ℕ → Text
wrong number line entry = Wrong (record { number = number; line = line; entry = entry })

abbrev pub or_zero : ℕ → ℕ
or_zero v = cond (leb v 65535) v 0

abbrev pub ended : ℕ → List ℕ → Text
ended n given = cond (ltb (missing given) 22) (wrong 5 n (missing given)) (Says (table_of (map or_zero given)))

-- behind n lines that gave these entries
abbrev pub read_from : ℕ → List ℕ → List (List ℕ) → Text
read_from n given [] = ended n given
read_from n given (l ∷ ls) =
    cond (eqb (fault_of given (line_of l)) 0) (read_from (suc n) (with_line given (line_of l)) ls)
    (wrong (fault_of given (line_of l)) (suc n) (entry_in (line_of l)))

unfoldable pub read_of : List ℕ → Text
read_of text = read_from 0 nothing_given (lines text)
