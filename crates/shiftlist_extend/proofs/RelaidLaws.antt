-- Laws on the bytes of a list that is extended: its last entry, and the new entries behind those that stay, under the new count.
-- Assumes nothing.
use mathlib.Core.Path.{◌≡◌, sym, ap, ◌∙◌}
use mathlib.Core.List.{List, [], ◌∷◌, ◌++◌, append_assoc}
use Prim.Native.Nat.{ℕ, suc, ◌+◌, ◌*◌, ◌≤◌}
use native.Mathlib.Omega.{arith}
use lib.ListN.{length, get_or, take, drop, length-append}
use lib.Seq.{sets, sets-eq, take-append_seam, drop-append-add, drop_at, take-suc, take_all, length-take-le}
use Rattle.numbers.specs.Bytes.{bytes_of}
use Rattle.numbers.proofs.StoreLaws.{bytes_of-append}
use Rattle.shiftlist.specs.declared.Shift.{Shift}
use Rattle.shiftlist.specs.Lists.{entries_of, header_of, list_of, shift_at, no_shift}
use Rattle.shiftlist.proofs.ListLaws.{entries_long, entries-append}
use Rattle.shiftlist.proofs.FetchLaws.{Fits, shift_dropped, shift_read}

abbrev pub head : ℕ → List ℕ
head n = bytes_of (header_of n)

-- the bytes of a list of shifts in two pieces
pub in_two : (c x : List Shift) (tail : List ℕ) → list_of (c ++ x) ++ tail ≡ head (length (c ++ x)) ++ (bytes_of (entries_of c) ++ (bytes_of (entries_of x) ++ tail))
in_two c x tail =
    let whole : bytes_of (entries_of (c ++ x)) ≡ bytes_of (entries_of c) ++ bytes_of (entries_of x) =
    ap bytes_of (entries-append c x) ∙ bytes_of-append (entries_of c) (entries_of x)
    in
    ap (λ b. head (length (c ++ x)) ++ (b ++ tail)) whole
    ∙ ap (λ b. head (length (c ++ x)) ++ b) (append_assoc (bytes_of (entries_of c)) (bytes_of (entries_of x)) tail)

-- stores behind a beginning
behind : (p q vs : List ℕ) (i : ℕ) → length p ≡ i → length vs ≤ length q → sets (p ++ q) i vs ≡ p ++ (vs ++ drop (length vs) q)
behind p q vs i e h =
    let long = length-append p q in
    ap (λ k. sets (p ++ q) k vs) (sym e)
    ∙ sets-eq vs (p ++ q) (length p) (omega arith)
    ∙ append_assoc (take (length p) (p ++ q)) vs (drop (length p + length vs) (p ++ q))
    ∙ ap (λ a. a ++ (vs ++ drop (length p + length vs) (p ++ q))) (take-append_seam p q)
    ∙ ap (λ b. p ++ (vs ++ b)) (drop-append-add p q (length vs))

-- entries c stay, entries x are stored behind them over what stands there
pub relaid :
    (m n : ℕ) (c x : List Shift) (tail : List ℕ) → n ≡ length (c ++ x) → 16 * length x ≤ length tail
    → sets (sets (head m ++ (bytes_of (entries_of c) ++ tail)) 0 (head n)) (8 + 16 * length c) (bytes_of (entries_of x))
    ≡ list_of (c ++ x) ++ drop (16 * length x) tail
relaid m n c x tail e h =
    let bc = bytes_of (entries_of c) in
    let bx = bytes_of (entries_of x) in
    let lc = entries_long c in
    let lx = entries_long x in
    let stored : sets ((head n ++ bc) ++ tail) (8 + 16 * length c) bx ≡ (head n ++ bc) ++ (bx ++ drop (length bx) tail) =
    behind (head n ++ bc) tail bx (8 + 16 * length c) (omega arith) (omega arith)
    in
    ap (λ l. sets l (8 + 16 * length c) bx) (sym (append_assoc (head n) bc tail))
    ∙ stored
    ∙ append_assoc (head n) bc (bx ++ drop (length bx) tail)
    ∙ ap (λ k. head n ++ (bc ++ (bx ++ drop k tail))) lx
    ∙ ap (λ k. head k ++ (bc ++ (bx ++ drop (16 * length x) tail))) e
    ∙ sym (in_two c x (drop (16 * length x) tail))

-- what stands behind the entries that stay
pub from_there : (m : ℕ) (c : List Shift) (tail : List ℕ) → drop (8 + 16 * length c) (head m ++ (bytes_of (entries_of c) ++ tail)) ≡ tail
from_there m c tail =
    let bc = bytes_of (entries_of c) in
    let lc = entries_long c in
    ap (drop (8 + 16 * length c)) (sym (append_assoc (head m) bc tail)) ∙ drop_at (head m ++ bc) tail (8 + 16 * length c) (omega arith)

-- ---- the last entry
pub all_but_last : (es : List Shift) (m : ℕ) → length es ≡ suc m → take m es ++ (get_or es m no_shift ∷ []) ≡ es
all_but_last es m e = sym (take-suc es m no_shift (omega arith)) ∙ take_all (suc m) es (omega arith)

pub last_read :
    (es : List Shift) (m : ℕ) (tail : List ℕ) → length es ≡ suc m → Fits (get_or es m no_shift)
    → shift_at (list_of es ++ tail) (8 + 16 * m) ≡ get_or es m no_shift
last_read es m tail e f =
    let c = take m es in
    let x = get_or es m no_shift ∷ [] in
    let all = all_but_last es m e in
    let long : length c ≡ m = length-take-le m es (omega arith) in
    let bytes : list_of es ++ tail ≡ head (length es) ++ (bytes_of (entries_of c) ++ (bytes_of (entries_of x) ++ tail)) =
    ap (λ l. list_of l ++ tail) (sym all) ∙ in_two c x tail ∙ ap (λ l. head (length l) ++ (bytes_of (entries_of c) ++ (bytes_of (entries_of x) ++ tail))) all
    in
    let there : drop (8 + 16 * m) (list_of es ++ tail) ≡ bytes_of (entries_of x) ++ tail =
    ap (drop (8 + 16 * m)) bytes
    ∙ ap (λ k. drop (8 + 16 * k) (head (length es) ++ (bytes_of (entries_of c) ++ (bytes_of (entries_of x) ++ tail)))) (sym long)
    ∙ from_there (length es) c (bytes_of (entries_of x) ++ tail)
    in
    shift_dropped (list_of es ++ tail) (8 + 16 * m) ∙ ap (λ b. shift_at b 0) there ∙ shift_read (get_or es m no_shift) tail f
