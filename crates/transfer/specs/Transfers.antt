-- Document 01, "Step files, parts and writing": the parts of a file arrive one after the other and are joined in one buffer.
-- Assumes nothing.
use Rattle.std.specs.Prelude.{◌≡◌, ◌⊎◌, List, [], ◌∷◌, ℕ, ◌+◌, ◌≤◌, max, length, take, drop}
use Rattle.transfer.specs.Join.{Joined, joined, buffer_after}

-- a part, with the offset that it is said to be cut at
pub record Arrival : Type 0 where
  pub offset : ℕ
  pub part : List ℕ

-- a buffer, with the count held in it
pub record Store : Type 0 where
  pub buffer : List ℕ
  pub held : ℕ

abbrev pub empty : List ℕ → Store
empty buffer = record { buffer = buffer; held = 0 }

-- what the join of a part answers, and what is stored after it; and after all of a list of parts, whichever are refused
abbrev pub answer : Store → Arrival → Joined
answer s a = joined s.buffer s.held a.offset a.part

abbrev pub after : Store → Arrival → Store
after s a = record { buffer = buffer_after s.buffer s.held a.offset a.part; held = (answer s a).held }

abbrev pub after_all : Store → List Arrival → Store
after_all s [] = s
after_all s (a ∷ arrivals) = after_all (after s a) arrivals

-- the part is cut from the file at its stated offset
pub record Cut (file : List ℕ) (a : Arrival) : Type 0 where
  pub within : a.offset + length a.part ≤ length file
  pub bytes : a.part ≡ take (length a.part) (drop a.offset file)

-- every part that is accepted is; what is refused may be anything
abbrev pub AcceptedCut : List ℕ → Store → List Arrival → Type 0
AcceptedCut file s [] = Unit {0}
AcceptedCut file s (a ∷ arrivals) = ((answer s a).number ≡ 0 → Cut file a) × AcceptedCut file (after s a) arrivals

-- the held bytes are a beginning of the file
pub record Begins (file : List ℕ) (s : Store) : Type 0 where
  pub within : s.held ≤ length file
  pub bytes : take s.held s.buffer ≡ take s.held file

-- some of the parts reach from `end` to `far` without a gap, in the order in which they arrive: they are cut from the file, and none
-- of them begins beyond what those before it reach. The others may be anything.
abbrev pub Reaches : List ℕ → ℕ → ℕ → List Arrival → Type 0
Reaches file end far [] = end ≡ far
Reaches file end far (a ∷ arrivals) =
    (Cut file a × (a.offset ≤ end) × Reaches file (max end (a.offset + length a.part)) far arrivals)
    ⊎ Reaches file end far arrivals
