-- A limit table as text, a second time, in words: a line that says nothing, one that says an entry, a text that says a table, and where
-- another is wrong first. It shares no definition with Texts.antt and the words of `tablewords`; the names are those of its Names.antt.
-- Assumes nothing.
use Rattle.std.specs.Prelude.{◌≡◌, ◌⊎◌, List, [], ◌∷◌, ◌++◌, ℕ, ◌+◌, ◌-◌, ◌*◌, ◌^◌, ◌≤◌, ◌<◌, length, get_or, set, replicate}
use Rattle.limits.specs.declared.Table.{Table}
use Rattle.limits.specs.Limits.{entry}
use Rattle.tablewords.specs.Names.{name}
use Rattle.tabletext.specs.Answers.{Fault}

-- a space, a tab or a carriage return, and each of them one
abbrev pub IsBlank : ℕ → Type 0
IsBlank b = (b ≡ 32) ⊎ ((b ≡ 9) ⊎ (b ≡ 13))

abbrev pub Blanks : List ℕ → Type 0
Blanks [] = Unit {0}
Blanks (b ∷ bs) = IsBlank b × Blanks bs

-- none of them is a line feed
abbrev pub OneLine : List ℕ → Type 0
OneLine [] = Unit {0}
OneLine (b ∷ bs) = ¬ (b ≡ 10) × OneLine bs

-- nothing, or a # with whatever stands behind it
abbrev pub Comment : List ℕ → Type 0
Comment [] = Unit {0}
Comment (b ∷ bs) = b ≡ 35

-- each of them is a decimal digit, and what they are worth
abbrev pub Digits : List ℕ → Type 0
Digits [] = Unit {0}
Digits (d ∷ ds) = ((48 ≤ d) × (d ≤ 57)) × Digits ds

abbrev pub worth : List ℕ → ℕ
worth [] = 0
worth (d ∷ ds) = (d - 48) * 10 ^ length ds + worth ds

-- a line that says nothing: blanks, and a comment or none
pub record Silent (l : List ℕ) : Type 0 where
  pub before : List ℕ
  pub comment : List ℕ
  pub line : l ≡ before ++ comment
  pub blank : Blanks before
  pub commented : Comment comment

-- a line that says that entry i is v: its name and the digits of v, blanks between them, blanks before and behind them or none, and a
-- comment or none
pub record Telling (i v : ℕ) (l : List ℕ) : Type 0 where
  pub before : List ℕ
  pub between : List ℕ
  pub digits : List ℕ
  pub behind : List ℕ
  pub comment : List ℕ
  pub line : l ≡ before ++ (name i ++ (between ++ (digits ++ (behind ++ comment))))
  pub blank : Blanks before × (Blanks between × Blanks behind)
  pub apart : 1 ≤ length between
  pub number : Digits digits
  pub some : 1 ≤ length digits
  pub value : worth digits ≡ v
  pub commented : Comment comment

-- ---- the lines of a text, with a line feed between two
abbrev pub joined : List ℕ → List (List ℕ) → List ℕ
joined l [] = l
joined l (m ∷ ms) = l ++ (10 ∷ joined m ms)

abbrev pub OneLines : List (List ℕ) → Type 0
OneLines [] = Unit {0}
OneLines (l ∷ ls) = OneLine l × OneLines ls

-- the twenty-two entries, as far as the lines before have given them: 65,536 stands for one that none has given
abbrev pub NotGiven : List ℕ → ℕ → Type 0
NotGiven given i = get_or given i 0 ≡ 65536

-- a line that gives an entry which none before it has given, and what is then to hold of the entries
pub record Gives (l given : List ℕ) (further : List ℕ → Type 0) : Type 0 where
  pub entry : ℕ
  pub value : ℕ
  pub an_entry : entry < 22
  pub fits : value ≤ 65535
  pub tells : Telling entry value l
  pub new : NotGiven given entry
  pub rest : further (set given entry value)

-- lines, each of which says nothing or gives an entry, lead from these entries to those
abbrev pub Giving : List (List ℕ) → List ℕ → List ℕ → Type 0
Giving [] given after = given ≡ after
Giving (l ∷ ls) given after = (Silent l × Giving ls given after) ⊎ Gives l given (λ g. Giving ls g after)

-- a text that says a table: its lines give eighteen entries or all twenty-two, none of them twice, and the table has these, and 0 for
-- a delay that is not given
pub record Saying (text : List ℕ) (t : Table) : Type 0 where
  pub first : List ℕ
  pub further : List (List ℕ)
  pub whole : text ≡ joined first further
  pub each : OneLines (first ∷ further)
  pub given : List ℕ
  pub gives : Giving (first ∷ further) (replicate 22 65536) given
  pub limits : (i : ℕ) → i < 18 → ¬ NotGiven given i
  pub delays : ((i : ℕ) → 18 ≤ i → i < 22 → ¬ NotGiven given i) ⊎ ((i : ℕ) → 18 ≤ i → i < 22 → NotGiven given i)
  pub there : (i : ℕ) → i < 22 → ¬ NotGiven given i → entry t i ≡ get_or given i 0
  pub absent : (i : ℕ) → i < 22 → NotGiven given i → entry t i ≡ 0

-- ---- a line that is wrong
-- its first word is the name of entry i, with blanks or none before it: behind it stands nothing, a blank or a #
abbrev pub Past : List ℕ → Type 0
Past [] = Unit {0}
Past (b ∷ bs) = IsBlank b ⊎ (b ≡ 35)

pub record Naming (i : ℕ) (l : List ℕ) : Type 0 where
  pub before : List ℕ
  pub behind : List ℕ
  pub line : l ≡ before ++ (name i ++ behind)
  pub blank : Blanks before
  pub past : Past behind

-- it says that entry i is more than 65,535
pub record TooLarge (i : ℕ) (l : List ℕ) : Type 0 where
  pub value : ℕ
  pub tells : Telling i value l
  pub above : 65535 < value

-- what is wrong with a line, behind those that gave these entries, by its number. 1: it has a word, and the first one is no name. Else
-- that is the name of entry i, and 2: this is given; or it is not, and 3: no number stands behind the name, or 4: one above 65,535
abbrev pub WrongEntry : List ℕ → List ℕ → ℕ → ℕ → Type 0
WrongEntry l given number i =
    ((number ≡ 2) × ¬ NotGiven given i)
    ⊎ (((number ≡ 3) × (NotGiven given i × ((v : ℕ) → ¬ Telling i v l))) ⊎ ((number ≡ 4) × (NotGiven given i × TooLarge i l)))

abbrev pub WrongLine : List ℕ → List ℕ → ℕ → ℕ → Type 0
WrongLine l given number i =
    ((number ≡ 1) × (¬ Silent l × ((j : ℕ) → j < 22 → ¬ Naming j l))) ⊎ ((i < 22) × (Naming i l × WrongEntry l given number i))

-- ---- a text that says no table
-- its line that is told is wrong, and each line before it says nothing or gives an entry
pub record WrongAt (text : List ℕ) (f : Fault) : Type 0 where
  pub first : List ℕ
  pub further : List (List ℕ)
  pub whole : text ≡ joined first further
  pub each : OneLines (first ∷ further)
  pub before : List (List ℕ)
  pub line : List ℕ
  pub behind : List (List ℕ)
  pub parted : first ∷ further ≡ before ++ (line ∷ behind)
  pub counted : length before + 1 ≡ f.line
  pub given : List ℕ
  pub gives : Giving before (replicate 22 65536) given
  pub wrong : WrongLine line given f.number f.entry

-- 5: each of its lines says nothing or gives an entry, and the first entry that is missing is told, with the last line: one of the first
-- eighteen, or a delay where another is given
pub record Lacking (text : List ℕ) (f : Fault) : Type 0 where
  pub first : List ℕ
  pub further : List (List ℕ)
  pub whole : text ≡ joined first further
  pub each : OneLines (first ∷ further)
  pub number : f.number ≡ 5
  pub counted : length (first ∷ further) ≡ f.line
  pub given : List ℕ
  pub gives : Giving (first ∷ further) (replicate 22 65536) given
  pub missing : NotGiven given f.entry
  pub none_before : (i : ℕ) → i < f.entry → ¬ NotGiven given i
  pub wanted : (f.entry < 18) ⊎ ((f.entry < 22) × ¬ ((i : ℕ) → 18 ≤ i → i < 22 → NotGiven given i))

-- what is told is wrong, and nothing before it is
abbrev pub WrongFirst : List ℕ → Fault → Type 0
WrongFirst text f = WrongAt text f ⊎ Lacking text f
