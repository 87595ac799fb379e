-- Laws on storing entries one after the other.
-- Assumes nothing.
use Rattle.std.proofs.Common.{◌≡◌, ℕ, suc, ◌+◌, ◌-◌, ◌*◌, ◌<◌, ◌≤◌, Bool, true, false, ◌&&◌, List, [], ◌∷◌, ◌++◌, length, take, drop, set, sym, refl, ap, ◌∙◌, append_assoc, append-nil, add-zero, arith, drop_of_length-le}
use lib.Seq.{sets, sets-eq, set_comm}
use borrow.Rule.Slice.PartMut.{mid_of, put_mid, mid_len, Post-is}
use Rattle.numbers.specs.Bytes.{bytes_of}
use Rattle.numbers.proofs.StoreLaws.{sets-append, at_start}
use Rattle.shiftlist.specs.declared.Shift.{Shift}
use Rattle.shiftlist.specs.Lists.{numbers_of, entries_of}
use Rattle.shiftlist.specs.Walks.{with}

-- one entry or none, then the others
pub with_first :
    (l : List ℕ) (p : ℕ) (b : Bool) (e : Shift) (es : List Shift)
    → sets l p (bytes_of (entries_of (with b e es)))
    ≡ sets (sets l p (bytes_of (entries_of (with b e [])))) (p + 16 * length (with b e [])) (bytes_of (entries_of es))
with_first l p true e es = sets-append l p (bytes_of (numbers_of e)) (bytes_of (entries_of es))
with_first l p false e es = ap (λ n. sets l n (bytes_of (entries_of es))) (sym (add-zero p))

pub with-length : (b : Bool) (e : Shift) (es : List Shift) → length (with b e es) ≡ length (with b e []) + length es
with-length true e es = omega arith
with-length false e es = omega arith

pub one_at_most : (b : Bool) (e : Shift) → length (with b e []) ≤ 1
one_at_most true e = omega arith
one_at_most false e = omega arith

pub never : (a b : Bool) → b ≡ false → a && b ≡ false
never true b e = e
never false b e = refl

-- stored in a part, which is put back
pub part_stored :
    (l vs : List ℕ) (a e : ℕ) → a + length vs ≡ e → e ≤ length l → put_mid a (e - a) l (sets (mid_of a (e - a) l) 0 vs) ≡ sets l a vs
part_stored l vs a e h r =
    let long : length (mid_of a (e - a) l) ≡ length vs = mid_len a e l r ∙ omega (arith, h) in
    let none : drop (length vs) (mid_of a (e - a) l) ≡ [] = drop_of_length-le (mid_of a (e - a) l) {i = length vs} (omega (arith, long)) in
    let all : sets (mid_of a (e - a) l) 0 vs ≡ vs = at_start (mid_of a (e - a) l) vs (length vs) refl (omega (arith, long)) ∙ ap (λ b. vs ++ b) none ∙ append-nil vs in
    ap (put_mid a (e - a) l) all
    ∙ ap (λ b. take a l ++ (vs ++ b)) (Post-is a e l (omega arith) ∙ ap (λ k. drop k l) (sym h))
    ∙ sym (append_assoc (take a l) vs (drop (a + length vs) l))
    ∙ sym (sets-eq vs l a (omega arith))

-- stores at places apart
one_apart : (l : List ℕ) (i v j : ℕ) (vs : List ℕ) → i < j → sets (set l i v) j vs ≡ set (sets l j vs) i v
one_apart l i v j [] h = refl
one_apart l i v j (w ∷ vs) h =
    ap (λ m. sets m (suc j) vs) (set_comm l i j v w (λ e. omega arith)) ∙ one_apart (set l j w) i v (suc j) vs (omega arith)

pub apart : (l : List ℕ) (i : ℕ) (us : List ℕ) (j : ℕ) (vs : List ℕ) → i + length us ≤ j → sets (sets l i us) j vs ≡ sets (sets l j vs) i us
apart l i [] j vs h = refl
apart l i (u ∷ us) j vs h =
    apart (set l i u) (suc i) us j vs (omega arith) ∙ ap (λ m. sets m (suc i) us) (one_apart l i u j vs (omega arith))
