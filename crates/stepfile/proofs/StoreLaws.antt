-- Laws on storing numbers one after the other: what is stored and what is still to be stored are the whole.
-- Assumes nothing.
use mathlib.Core.Path.{◌≡◌, refl, sym, ap, ◌∙◌}
use mathlib.Core.Logic.{◌⊎◌, inl, inr}
use mathlib.Core.List.{List, [], ◌∷◌, ◌++◌}
use Prim.Native.Nat.{ℕ, ◌+◌, ◌*◌}
use native.Mathlib.Nat.{zero-add}
use native.Mathlib.Omega.{arith}
use lib.ListN.{length, take}
use lib.Seq.{sets}
use Rattle.numbers.specs.Bytes.{bytes_of}
use Rattle.numbers.proofs.StoreLaws.{bytes_of-append, length-bytes_of, sets-append}
use Rattle.limits.specs.declared.Table.{Table}
use Rattle.limits.specs.Limits.{entries}
use Rattle.stepfile.specs.Writing.{entries_for, header_of, records_of, file_of, first_wrong}
use Rattle.stepfile.proofs.EntryLaws.{entries_taken}

-- ---- where one of two lists is at its end
pub none_left : (i : ℕ) (cs ns : List ℕ) → (cs ≡ []) ⊎ (ns ≡ []) → first_wrong i cs ns ≡ record { number = 0; index = 0 }
none_left i [] ns e = refl
none_left i (c ∷ cs) [] e = refl
none_left i (c ∷ cs) (n ∷ ns) (inl e) = absurd (cc)
none_left i (c ∷ cs) (n ∷ ns) (inr e) = absurd (cc)

-- ---- header, entries and records in one
parts_stored :
    (l h e r : List ℕ)
    → sets (sets (sets l 0 (bytes_of h)) (length (bytes_of h)) (bytes_of e)) (length (bytes_of h) + length (bytes_of e)) (bytes_of r)
    ≡ sets l 0 (bytes_of (h ++ (e ++ r)))
parts_stored l h e r =
    let whole : bytes_of (h ++ (e ++ r)) ≡ bytes_of h ++ (bytes_of e ++ bytes_of r) =
    bytes_of-append h (e ++ r) ∙ ap (λ bs. bytes_of h ++ bs) (bytes_of-append e r)
    in
    let m = sets l 0 (bytes_of h) in
    sym (ap (sets l 0) whole
    ∙ sets-append l 0 (bytes_of h) (bytes_of e ++ bytes_of r)
    ∙ ap (λ n. sets m n (bytes_of e ++ bytes_of r)) (zero-add (length (bytes_of h)))
    ∙ sets-append m (length (bytes_of h)) (bytes_of e) (bytes_of r))

-- of a table that is written with k entries
pub file_stored :
    (l : List ℕ) (t : Table) (cs ns : List ℕ) (k : ℕ) → k ≡ length (entries_for t)
    → sets (sets (sets l 0 (bytes_of (header_of k (length cs)))) 12 (bytes_of (take k (entries t)))) (12 + 2 * k) (bytes_of (records_of cs ns))
    ≡ sets l 0 (file_of t cs ns)
file_stored l t cs ns k e =
    let es = entries_for t in
    let h = header_of (length es) (length cs) in
    let place : 12 + 2 * length es ≡ 12 + length (bytes_of es) = omega (arith, length-bytes_of es) in
    rw (e, entries_taken t)
    (ap (λ p. sets (sets (sets l 0 (bytes_of h)) 12 (bytes_of es)) p (bytes_of (records_of cs ns))) place
    ∙ parts_stored l h es (records_of cs ns))
