-- What is laid on a page.
use Rattle.std.specs.Prelude.{ℕ, List, ◌++◌, take, replicate, IsOk, OnOk}
use Rattle.std.specs.declared.option.Option.{Option}
use Rattle.std.specs.Io.KnownBytes.{Appends, append_known}
use Rattle.columns.specs.declared.page.Page.{Page}

-- the bytes that its writer holds and those of its text, where they are known
abbrev pub laid : {W : Type 0} → (W → Option (List ℕ)) → Page W → Option (List ℕ)
laid contents page = append_known (contents page.out) (take page.used page.text)

-- the spaces that a further cell of the row has before it
abbrev pub owed : {W : Type 0} → Page W → ℕ
owed page = page.owed

-- where all is written that had to be, it was so before, and these bytes came behind what was laid
abbrev pub Lays : {W : Type 0} → (W → Option (List ℕ)) → Page W → Page W → List ℕ → Type 0
Lays contents old new bytes = OnOk new.written (IsOk old.written × Appends (laid contents old) (laid contents new) bytes)

-- so many spaces, and a word
abbrev pub behind_spaces : ℕ → List ℕ → List ℕ
behind_spaces count word = replicate count 32 ++ word
