-- Laws on numbered checks: what an answer of `first` tells of the list, and how the answer is found.
-- Assumes nothing.
use mathlib.Core.Path.{◌≡◌, refl, sym, ap, ◌∙◌}
use mathlib.Core.Bool.{Bool, true, false, not, ◌&&◌, cond}
use mathlib.Core.Logic.{◌⊎◌, inl, inr, ⊎_elim}
use mathlib.Core.List.{List, [], ◌∷◌, ◌++◌, append-nil}
use Prim.Native.Nat.{ℕ, zero, suc, ◌≤◌}
use native.Mathlib.Omega.{arith}
use lib.Dec.{T, leb, eqb, leb→le}
use borrow.Author.Tests.{eqb-false, not-true}
use Rattle.checks.specs.Checks.{Check, first}
use Rattle.checks.proofs.Tests.{passed, left, right, case}

-- ---- a list that holds answers 0
-- all of them hold
abbrev pub Holds : List Check → Type 0
Holds [] = Unit {0}
Holds (c ∷ cs) = T c.ok × Holds cs

holding : (b : Bool) (m n k : ℕ) → T b → m ≡ k → cond b m n ≡ k
holding true m n k t e = e
holding false m n k t e = absurd t

pub holds→first : (cs : List Check) → Holds cs → first cs ≡ 0
holds→first [] h = refl
holds→first (c ∷ cs) h = holding c.ok (first cs) c.number 0 h.0 (holds→first cs h.1)

-- ---- an answer that a list cannot give comes from what follows it
-- no check of the list has the number k
abbrev pub absent : ℕ → List Check → Bool
absent k [] = true
absent k (c ∷ cs) = not (eqb c.number k) && absent k cs

passing : (b : Bool) (m n k : ℕ) → ¬ (n ≡ k) → cond b m n ≡ k → T b × (m ≡ k)
passing true m n k l e = (tt, e)
passing false m n k l e = absurd (l e)

pub first-append : (k : ℕ) (xs ys : List Check) → T (absent k xs) → first (xs ++ ys) ≡ k → Holds xs × (first ys ≡ k)
first-append k [] ys n e = (tt, e)
first-append k (c ∷ cs) ys n e =
    let other = left (not (eqb c.number k)) (absent k cs) n in
    let l = eqb-false c.number k (not-true (eqb c.number k) (passed (not (eqb c.number k)) other)) in
    let o = passing c.ok (first (cs ++ ys)) c.number k l e in
    let r = first-append k cs ys (right (not (eqb c.number k)) (absent k cs) n) o.1 in
    ((o.0, r.0), r.1)

-- with k = 0: where a list answers 0, all of it holds
pub first→holds : (k : ℕ) (xs : List Check) → T (absent k xs) → first xs ≡ k → Holds xs × (0 ≡ k)
first→holds k xs n e = first-append k xs [] n (rw append-nil e)

-- ---- the answer is the number of the check that fails first
-- the checks before i hold, and the one at i does not
abbrev pub Fails : List Check → ℕ → Type 0
Fails [] i = ⊥
Fails (c ∷ cs) zero = T (not c.ok)
Fails (c ∷ cs) (suc i) = T c.ok × Fails cs i

abbrev pub number_at : List Check → ℕ → ℕ
number_at [] i = 0
number_at (c ∷ cs) zero = c.number
number_at (c ∷ cs) (suc i) = number_at cs i

failing : (b : Bool) (m n : ℕ) → T (not b) → cond b m n ≡ n
failing true m n t = absurd t
failing false m n t = refl

pub refused : (cs : List Check) (i : ℕ) → Fails cs i → first cs ≡ number_at cs i
refused [] i f = absurd f
refused (c ∷ cs) zero f = failing c.ok (first cs) c.number f
refused (c ∷ cs) (suc i) f = holding c.ok (first cs) c.number (number_at cs i) f.0 (refused cs i f.1)

-- ---- a list in two parts: the first part's answer, or where it holds the second's
same : (b : Bool) (m m' n : ℕ) → ¬ (cond b m' n ≡ 0) → (¬ (m' ≡ 0) → m ≡ m') → cond b m n ≡ cond b m' n
same true m m' n h f = f h
same false m m' n h f = refl

pub first_left : (xs ys : List Check) → ¬ (first xs ≡ 0) → first (xs ++ ys) ≡ first xs
first_left [] ys h = absurd (h refl)
first_left (c ∷ cs) ys h = same c.ok (first (cs ++ ys)) (first cs) c.number h (first_left cs ys)

pub first_right : (xs ys : List Check) → Holds xs → first (xs ++ ys) ≡ first ys
first_right [] ys h = refl
first_right (c ∷ cs) ys h = holding c.ok (first (cs ++ ys)) c.number (first ys) h.0 (first_right cs ys h.1)

-- a second part that holds adds nothing
pub first_alone : (xs ys : List Check) → first ys ≡ 0 → first (xs ++ ys) ≡ first xs
first_alone [] ys h = h
first_alone (c ∷ cs) ys h = ap (λ m. cond c.ok m c.number) (first_alone cs ys h)

-- the same of an answer that was found: of the first part where it is a number, of the second where the first part answers 0
pub found_left : {k : ℕ} (xs ys : List Check) → k ≡ first xs → ¬ (k ≡ 0) → k ≡ first (xs ++ ys)
found_left xs ys e h = e ∙ sym (first_left xs ys (λ q. h (e ∙ q)))

pub found_right :
    {k m : ℕ} (xs ys : List Check) → T (absent 0 xs) → k ≡ first xs → k ≡ 0 → m ≡ first ys → m ≡ first (xs ++ ys)
found_right xs ys n e z f = f ∙ sym (first_right xs ys (first→holds 0 xs n (sym e ∙ z)).0)

-- ---- the answer is 0 or lies where the numbers of the list lie
abbrev pub within : ℕ → ℕ → List Check → Bool
within l m [] = true
within l m (c ∷ cs) = (leb l c.number && leb c.number m) && within l m cs

pub between : (l m : ℕ) (cs : List Check) → T (within l m cs) → (first cs ≡ 0) ⊎ ((l ≤ first cs) × (first cs ≤ m))
between l m [] h = inl refl
between l m (c ∷ cs) h =
    let both = left (leb l c.number && leb c.number m) (within l m cs) h in
    let low = left (leb l c.number) (leb c.number m) both in
    let high = right (leb l c.number) (leb c.number m) both in
    case c.ok
    (λ e. rw e (between l m cs (right (leb l c.number && leb c.number m) (within l m cs) h)))
    (λ e. rw e (inr (leb→le l c.number low, leb→le c.number m high)))

pub at_most : (m : ℕ) (cs : List Check) → T (within 0 m cs) → first cs ≤ m
at_most m cs h = ⊎_elim (λ z. omega arith) (λ b. b.1) (between 0 m cs h)
