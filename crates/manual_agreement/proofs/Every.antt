-- From an equation of two lists of results to the equation at any of the arguments.
-- Assumes nothing.
use mathlib.Core.Path.{◌≡◌, sym, ap, subst}
use mathlib.Core.Bool.{Bool}
use mathlib.Core.Logic.{⊎_elim}
use mathlib.Core.List.{List, [], ◌∷◌, map}
use Prim.Native.Nat.{ℕ}
use lib.Dec.{T, eqb, eqb→eq}
use lib.ListN.{get_or}
use Rattle.checks.proofs.Tests.{either, left, right}
use Rattle.shift.specs.declared.Step.{Step}
use Rattle.shift.specs.declared.Step.TheVariants.{FromNeutral, GearToGear, ToNeutral, Deliver, DeviceGood, DeviceFailed, EngineWaits, Take, AskClutch, RaiseError, Finish, Tick, Reset}
use Rattle.manual.proofs.Places.{Place, has, orders, lasts, fallible, stages, valid}
use Rattle.manual.proofs.Places.Place.{rest, at, done, error}
use Rattle.manual.proofs.Same.{steps}

abbrev tail : {A : Type 0} → List A → List A
tail [] = []
tail (x ∷ xs) = xs

abbrev head : {A : Type 0} → A → List A → A
head d [] = d
head d (x ∷ xs) = x

-- of numbers
pub every : {A : Type 0} (f g : ℕ → A) (xs : List ℕ) → map f xs ≡ map g xs → (k : ℕ) → T (has k xs) → f k ≡ g k
every f g [] e k h = absurd h
every f g (x ∷ xs) e k h =
    ⊎_elim
    (λ i. subst (λ (y : ℕ). f y ≡ g y) (sym (eqb→eq k x i)) (ap (head (f x)) e))
    (λ j. every f g xs (ap tail e) k j)
    (either (eqb k x) (has k xs) h)

-- of places
pub in_each_phase :
    {A : Type 0} (f g : ℕ → ℕ → A)
    → map (λ (j : ℕ). map (λ (k : ℕ). f k j) orders) stages ≡ map (λ (j : ℕ). map (λ (k : ℕ). g k j) orders) stages
    → (p n : ℕ) → T (valid (at p n)) → f p n ≡ g p n
in_each_phase f g e p n h =
    every (λ (k : ℕ). f k n) (λ (k : ℕ). g k n) orders
    (every (λ (j : ℕ). map (λ (k : ℕ). f k j) orders) (λ (j : ℕ). map (λ (k : ℕ). g k j) orders) stages e n (right (has p orders) (has n stages) h))
    p (left (has p orders) (has n stages) h)

pub at_each_place :
    {A : Type 0} (f g : Place → A) → ((b : Bool) → f (rest b) ≡ g (rest b))
    → map (λ (j : ℕ). map (λ (k : ℕ). f (at k j)) orders) stages ≡ map (λ (j : ℕ). map (λ (k : ℕ). g (at k j)) orders) stages
    → map (λ (k : ℕ). f (done k)) lasts ≡ map (λ (k : ℕ). g (done k)) lasts
    → map (λ (k : ℕ). f (error k)) fallible ≡ map (λ (k : ℕ). g (error k)) fallible → (c : Place) → T (valid c) → f c ≡ g c
at_each_place f g r s d e (rest b) h = r b
at_each_place f g r s d e (at p n) h = in_each_phase (λ (k : ℕ) (j : ℕ). f (at k j)) (λ (k : ℕ) (j : ℕ). g (at k j)) s p n h
at_each_place f g r s d e (done p) h = every (λ (k : ℕ). f (done k)) (λ (k : ℕ). g (done k)) lasts d p h
at_each_place f g r s d e (error p) h = every (λ (k : ℕ). f (error k)) (λ (k : ℕ). g (error k)) fallible e p h

-- of steps
abbrev pub amount : Step → ℕ
amount FromNeutral = 0
amount GearToGear = 0
amount ToNeutral = 0
amount Deliver = 0
amount DeviceGood = 0
amount DeviceFailed = 0
amount EngineWaits = 0
amount Take = 0
amount AskClutch = 0
amount RaiseError = 0
amount Finish = 0
amount (Tick n) = n
amount Reset = 0

pub each : {A : Type 0} (f g : Step → A) (x : Step) → map f (steps (amount x)) ≡ map g (steps (amount x)) → f x ≡ g x
each f g FromNeutral e = ap (λ l. get_or l 0 (f FromNeutral)) e
each f g GearToGear e = ap (λ l. get_or l 1 (f GearToGear)) e
each f g ToNeutral e = ap (λ l. get_or l 2 (f ToNeutral)) e
each f g Deliver e = ap (λ l. get_or l 3 (f Deliver)) e
each f g DeviceGood e = ap (λ l. get_or l 4 (f DeviceGood)) e
each f g DeviceFailed e = ap (λ l. get_or l 5 (f DeviceFailed)) e
each f g EngineWaits e = ap (λ l. get_or l 6 (f EngineWaits)) e
each f g Take e = ap (λ l. get_or l 7 (f Take)) e
each f g AskClutch e = ap (λ l. get_or l 8 (f AskClutch)) e
each f g RaiseError e = ap (λ l. get_or l 9 (f RaiseError)) e
each f g Finish e = ap (λ l. get_or l 10 (f Finish)) e
each f g (Tick n) e = ap (λ l. get_or l 11 (f (Tick n))) e
each f g Reset e = ap (λ l. get_or l 12 (f Reset)) e
