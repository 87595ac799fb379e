-- docs/CORPUS.md, "A case": the number of each kind, and the word that its lines begin with.
-- Assumes nothing.
use Rattle.std.specs.Prelude.{List, ℕ, ◌≡◌, ◌<◌, ◌⊎◌, Result, MatchResult, codes}
use Rattle.vectors.specs.declared.cases.NoCase.{NoCase}
use Rattle.vectors.specs.declared.kinds.Kind.{Kind}

abbrev pub number_of : Kind → ℕ
number_of Kind.Admit = 1
number_of Kind.Step = 2
number_of Kind.Advance = 3
number_of Kind.Read = 4
number_of Kind.Judge = 5
number_of Kind.Line = 6
number_of Kind.Join = 7
number_of Kind.Write = 8
number_of Kind.Manual = 9
number_of Kind.Block = 10
number_of Kind.List = 11
number_of Kind.Fetch = 12
number_of Kind.Extend = 13
number_of Kind.Text = 14
number_of Kind.Tighter = 15
number_of Kind.Print = 16
number_of Kind.Rules = 17

abbrev pub word_of : Kind → List ℕ
word_of Kind.Admit = codes "admit"
word_of Kind.Step = codes "step"
word_of Kind.Advance = codes "advance"
word_of Kind.Read = codes "read"
word_of Kind.Judge = codes "judge"
word_of Kind.Line = codes "line"
word_of Kind.Join = codes "join"
word_of Kind.Write = codes "write"
word_of Kind.Manual = codes "manual"
word_of Kind.Block = codes "block"
word_of Kind.List = codes "list"
word_of Kind.Fetch = codes "fetch"
word_of Kind.Extend = codes "extend"
word_of Kind.Text = codes "text"
word_of Kind.Tighter = codes "tighter"
word_of Kind.Print = codes "print"
word_of Kind.Rules = codes "rules"

-- no kind has this number
abbrev pub HasNoKind : ℕ → Type 0
HasNoKind number = (number ≡ 0) ⊎ (17 < number)

-- the kind that has this number, or none has it
abbrev pub Decodes : ℕ → Result Kind NoCase → Type 0
Decodes number r = MatchResult r (λ kind. number_of kind ≡ number) (λ _. HasNoKind number)
