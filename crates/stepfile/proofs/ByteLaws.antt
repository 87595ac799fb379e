-- Laws on numbers in bytes: reading them one after the other.
-- Assumes nothing.
use mathlib.Core.Path.{◌≡◌, refl, sym, ap, ◌∙◌}
use mathlib.Core.List.{List, ◌++◌, append-nil}
use Prim.Native.Nat.{ℕ, zero, suc, ◌+◌, ◌*◌, ◌-◌, ◌≤◌, ◌<◌}
use native.Mathlib.Numerals.{add-one}
use native.Mathlib.Omega.{arith}
use lib.ListN.{length, set, take, drop, drop_of_length-le, replicate}
use lib.Seq.{sets, length-take-le}
use Rattle.numbers.specs.Bytes.{u16_at, u16s_at}
use Rattle.numbers.proofs.StoreLaws.{at_start}

pub length-u16s_at : (l : List ℕ) (i m : ℕ) → length (u16s_at l i m) ≡ m
length-u16s_at l i zero = refl
length-u16s_at l i (suc m) = ap suc (length-u16s_at l (i + 2) m)

-- an array that nothing is stored in
abbrev pub blank : List ℕ
blank = replicate 22 0

pub length-blank : (n : ℕ) → n ≤ 22 → length (take n blank) ≡ n
length-blank n h = length-take-le n blank h

-- storing n numbers that stand from place 12 on, of which i are stored: one more
pub stored :
    (l f : List ℕ) (n i : ℕ) → i < n
    → sets l i (u16s_at f (12 + 2 * i) (n - i))
    ≡ sets (set l i (u16_at f (12 + 2 * i))) (i + 1) (u16s_at f (12 + 2 * (i + 1)) (n - (i + 1)))
stored l f n i h =
    let more : n - i ≡ suc (n - (i + 1)) = omega arith in
    let next : 12 + 2 * (i + 1) ≡ 12 + 2 * i + 2 = omega arith in
    rw (more, next, add-one i)

pub all_stored : (l f : List ℕ) (n i : ℕ) → n ≤ i → sets l i (u16s_at f (12 + 2 * i) (n - i)) ≡ l
all_stored l f n i h = let none : n - i ≡ 0 = omega arith in rw none

-- stored in the first n of a list, with the others behind them, they are stored in the list
pub in_front :
    (l m f : List ℕ) (n : ℕ) → n ≤ length l → sets (take n l) 0 (u16s_at f 12 n) ≡ m → m ++ drop n l ≡ sets l 0 (u16s_at f 12 n)
in_front l m f n h e =
    let xs = u16s_at f 12 n in
    let long = length-u16s_at f 12 n in
    let part = length-take-le n l h in
    let none = drop_of_length-le (take n l) {i = n} (omega arith) in
    let same : m ≡ xs =
    sym e ∙ at_start (take n l) xs n long (omega arith) ∙ ap (λ r. xs ++ r) none ∙ append-nil xs
    in
    ap (λ r. r ++ drop n l) same ∙ sym (at_start l xs n long h)
