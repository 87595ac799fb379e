-- docs/CORPUS.md, "A case": the thirteen bytes that a case begins with.
-- Assumes nothing.
use Rattle.std.specs.Prelude.{List, ℕ, ◌≡◌, ◌<◌, ◌⊎◌, Result, MatchResult, get_or}
use Rattle.numbers.specs.Bytes.{u32_at}
use Rattle.vectors.specs.declared.cases.TheConstants.{LONGEST}
use Rattle.vectors.specs.declared.cases.Head.{Head}
use Rattle.vectors.specs.declared.cases.NoCase.{NoCase}
use Rattle.vectors.specs.Kinds.{number_of, HasNoKind}

-- the head has the kind and the lengths that stand there, or there is no such kind, or a length is above the longest field's
abbrev pub IsHeadIn : List ℕ → Result Head NoCase → Type 0
IsHeadIn l r = MatchResult r
    (λ head. (number_of head.kind ≡ get_or l 0 0) × (head.a ≡ u32_at l 1) × (head.b ≡ u32_at l 5) × (head.c ≡ u32_at l 9))
    (λ _. HasNoKind (get_or l 0 0) ⊎ ((LONGEST < u32_at l 1) ⊎ ((LONGEST < u32_at l 5) ⊎ (LONGEST < u32_at l 9))))
