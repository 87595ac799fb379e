-- Laws on lists of tests, of guards with one number, and of invariants.
-- Assumes nothing.
use mathlib.Core.Path.{◌≡◌}
use mathlib.Core.Bool.{Bool, true, not, ◌&&◌}
use mathlib.Core.List.{List, [], ◌∷◌, map, ◌++◌}
use Prim.Native.Nat.{ℕ}
use lib.Dec.{T, eqb}
use Rattle.checks.specs.Checks.{Check, ◌!◌, first}
use Rattle.checks.proofs.Checks.{Holds, absent, first→holds}
use Rattle.checks.proofs.Tests.{left, right, both}
use Rattle.manual_invariants.specs.Invariants.{Invariant, Hold}

-- all of them hold
abbrev pub Each : List Bool → Type 0
Each [] = Unit {0}
Each (b ∷ bs) = T b × Each bs

-- and as a test
abbrev pub all : List Bool → Bool
all [] = true
all (b ∷ bs) = b && all bs

pub each→all : (bs : List Bool) → Each bs → T (all bs)
each→all [] h = tt
each→all (b ∷ bs) h = both b (all bs) h.0 (each→all bs h.1)

pub all→each : (bs : List Bool) → T (all bs) → Each bs
all→each [] h = tt
all→each (b ∷ bs) h = (left b (all bs) h, all→each bs (right b (all bs) h))

abbrev pub tail : List Bool → List Bool
tail [] = []
tail (b ∷ bs) = bs

pub each_tail : (bs : List Bool) → Each bs → Each (tail bs)
each_tail [] h = tt
each_tail (b ∷ bs) h = h.1

pub each_append : (bs cs : List Bool) → Each bs → Each cs → Each (bs ++ cs)
each_append [] cs g h = h
each_append (b ∷ bs) cs g h = (g.0, each_append bs cs g.1 h)

-- ---- guards with one number, not 0: where their answer is 0, they hold
abbrev pub refused_by : ℕ → List Bool → List Check
refused_by k = map (λ (b : Bool). b ! k)

numbered : (k : ℕ) (bs : List Bool) → T (not (eqb k 0)) → T (absent 0 (refused_by k bs))
numbered k [] h = tt
numbered k (b ∷ bs) h = both (not (eqb k 0)) (absent 0 (refused_by k bs)) h (numbered k bs h)

tested : (k : ℕ) (bs : List Bool) → Holds (refused_by k bs) → Each bs
tested k [] h = tt
tested k (b ∷ bs) h = (h.0, tested k bs h.1)

pub none_refuses : (k : ℕ) (bs : List Bool) → T (not (eqb k 0)) → first (refused_by k bs) ≡ 0 → Each bs
none_refuses k bs h z = tested k bs (first→holds 0 (refused_by k bs) (numbered k bs h) z).0

-- ---- invariants
abbrev pub formulas : List Invariant → List Bool
formulas = map (λ (i : Invariant). i.formula)

pub each→hold : (is : List Invariant) → Each (formulas is) → Hold is
each→hold [] h = tt
each→hold (i ∷ is) h = (h.0, each→hold is h.1)
