-- Laws on conditions: a list of checks that test them one by one answers the number of the first that holds; there is no other such
-- number; it is one of the list's, or 0; and how it is found in a list of two parts.
-- Assumes nothing.
use mathlib.Core.Path.{◌≡◌, refl, sym, ◌∙◌}
use mathlib.Core.Logic.{inl, inr, ⊎_elim}
use mathlib.Core.Bool.{Bool, true, not, ◌&&◌}
use mathlib.Core.List.{List, [], ◌∷◌, ◌++◌, map}
use Prim.Native.Nat.{ℕ}
use lib.Dec.{T, eqb}
use Rattle.checks.specs.Checks.{Check, first}
use Rattle.checks.specs.Conditions.{Condition, FirstOf, OneOf}
use Rattle.checks.proofs.Tests.{case, passes, left, right, neqb→ne}

-- each check tests its condition: it fails where the condition holds, and passes where it does not
abbrev pub Tested : List Check → List Condition → Type 0
Tested [] [] = Unit {0}
Tested [] (w ∷ ws) = ⊥
Tested (c ∷ cs) [] = ⊥
Tested (c ∷ cs) (w ∷ ws) =
    ((T (not c.ok) → w.holds) × ((T c.ok → ¬ w.holds) × (c.number ≡ w.number))) × Tested cs ws

pub first_of : (cs : List Check) (ws : List Condition) → Tested cs ws → FirstOf ws (first cs)
first_of [] [] h = refl
first_of [] (w ∷ ws) h = absurd h
first_of (c ∷ cs) [] h = absurd h
first_of (c ∷ cs) (w ∷ ws) h =
    case c.ok
    (λ e. rw e (inr (h.0.1.0 (passes c.ok e), first_of cs ws h.1)))
    (λ e. rw e (inl (h.0.0 (rw e tt), h.0.1.1)))

-- two numbers that are the first's are one
pub no_other : (ws : List Condition) (m n : ℕ) → FirstOf ws m → FirstOf ws n → m ≡ n
no_other [] m n p q = p ∙ sym q
no_other (w ∷ ws) m n p q =
    ⊎_elim
    (λ a. ⊎_elim (λ b. a.1 ∙ sym b.1) (λ b. absurd (b.0 a.0)) q)
    (λ a. ⊎_elim (λ b. absurd (a.0 b.0)) (λ b. no_other ws m n a.1 b.1) q)
    p

-- a number that is the first's is the list's, or 0
pub one_of : (ws : List Condition) (n : ℕ) → FirstOf ws n → OneOf (0 ∷ map (λ w. w.number) ws) n
one_of [] n f = inl f
one_of (w ∷ ws) n f =
    ⊎_elim
    (λ a. inr (inl a.1))
    (λ a. ⊎_elim (λ z. inl z) (λ r. inr (inr r)) (one_of ws n a.1))
    f

-- ---- a list in two parts: the number of the first part where it is not 0, else that of the second
pub of_left : (ws vs : List Condition) (n : ℕ) → ¬ (n ≡ 0) → FirstOf ws n → FirstOf (ws ++ vs) n
of_left [] vs n z f = absurd (z f)
of_left (w ∷ ws) vs n z f = ⊎_elim (λ a. inl a) (λ a. inr (a.0, of_left ws vs n z a.1)) f

-- no condition of the list gives 0
abbrev pub all_numbered : List Condition → Bool
all_numbered [] = true
all_numbered (w ∷ ws) = not (eqb w.number 0) && all_numbered ws

pub of_right : (ws vs : List Condition) (n : ℕ) → T (all_numbered ws) → FirstOf ws 0 → FirstOf vs n → FirstOf (ws ++ vs) n
of_right [] vs n t f g = g
of_right (w ∷ ws) vs n t f g =
    ⊎_elim
    (λ a. absurd (neqb→ne w.number 0 (left (not (eqb w.number 0)) (all_numbered ws) t) (sym a.1)))
    (λ a. inr (a.0, of_right ws vs n (right (not (eqb w.number 0)) (all_numbered ws) t) a.1 g))
    f
