-- Laws on the bytes of numbers and on storing them one after the other.
-- Assumes nothing.
use mathlib.Core.Path.{◌≡◌, refl, sym, ap, ◌∙◌}
use mathlib.Core.List.{List, [], ◌∷◌, ◌++◌}
use Prim.Native.Nat.{ℕ, suc, ◌+◌, ◌*◌, ◌/◌, ◌%◌, ◌≤◌}
use native.Mathlib.Nat.{add-zero, zero-add}
use native.Mathlib.Omega.{arith}
use lib.ListN.{length, set, drop}
use lib.Seq.{sets, sets-eq}
use Rattle.numbers.specs.Bytes.{bytes_of, halves}

pub bytes_of-append : (xs ys : List ℕ) → bytes_of (xs ++ ys) ≡ bytes_of xs ++ bytes_of ys
bytes_of-append [] ys = refl
bytes_of-append (x ∷ xs) ys = ap (λ (l : List ℕ). x % 256 ∷ x / 256 ∷ l) (bytes_of-append xs ys)

pub length-bytes_of : (xs : List ℕ) → length (bytes_of xs) ≡ 2 * length xs
length-bytes_of [] = refl
length-bytes_of (x ∷ xs) = let h = length-bytes_of xs in omega arith

pub sets-append : (l : List ℕ) (i : ℕ) (xs ys : List ℕ) → sets l i (xs ++ ys) ≡ sets (sets l i xs) (i + length xs) ys
sets-append l i [] ys = ap (λ n. sets l n ys) (sym (add-zero i))
sets-append l i (x ∷ xs) ys =
    let s = set l i x in
    sets-append s (suc i) xs ys ∙ ap (λ n. sets (sets s (suc i) xs) n ys) (omega arith)

-- at the start of a list that has room
pub at_start : (l vs : List ℕ) (n : ℕ) → length vs ≡ n → n ≤ length l → sets l 0 vs ≡ vs ++ drop n l
at_start l vs n e h = sets-eq vs l 0 (omega arith) ∙ ap (λ k. vs ++ drop k l) (zero-add (length vs) ∙ e)

-- a number of 32 bits in front of others
pub next32 : (l : List ℕ) (p q n : ℕ) (ns : List ℕ) → p + 4 ≡ q → sets l p (bytes_of (halves n ns)) ≡ sets (sets l p (bytes_of (halves n []))) q (bytes_of ns)
next32 l p q n ns e = sets-append l p (bytes_of (halves n [])) (bytes_of ns) ∙ ap (λ k. sets (sets l p (bytes_of (halves n []))) k (bytes_of ns)) e
