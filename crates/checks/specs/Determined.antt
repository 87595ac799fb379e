-- Document 01, "What the contracts have to determine": any two outcomes that a contract allows are equal.
-- Assumes nothing.
use Rattle.std.specs.Prelude.{◌≡◌}

-- What a function ensures is a claim on its lifetimes, its arguments, its result and what is lent to it at exit: its module's
-- `Reads.Post`. Of a function that changes nothing lent to it: for all arguments the claim leaves one result.
abbrev pub Determined : {K : Type 0} {A R E : K → Type 0} → ((κs : K) → A κs → R κs → E κs → Type 0) → Type 0
Determined {K} {A} {R} {E} ensured =
    (κs : K) (a : A κs) (x y : R κs) (at at' : E κs) → ensured κs a x at → ensured κs a y at' → x ≡ y

-- Of a function that changes what is lent to it, which `lent` reads off the claim's last argument: one result, and one content of
-- what was lent.
abbrev pub DeterminedLent :
    {K L : Type 0} {A R E : K → Type 0} → ((κs : K) → E κs → L) → ((κs : K) → A κs → R κs → E κs → Type 0) → Type 0
DeterminedLent {K} {L} {A} {R} {E} lent ensured =
    (κs : K) (a : A κs) (x y : R κs) (at at' : E κs) → ensured κs a x at → ensured κs a y at'
    → (x ≡ y) × (lent κs at ≡ lent κs at')

-- Of a function that hands back a part of what is lent to it, whose content `part` reads off the result: one content.
abbrev pub DeterminedPart :
    {K L : Type 0} {A R E : K → Type 0} → ((κs : K) → R κs → L) → ((κs : K) → A κs → R κs → E κs → Type 0) → Type 0
DeterminedPart {K} {L} {A} {R} {E} part ensured =
    (κs : K) (a : A κs) (x y : R κs) (at at' : E κs) → ensured κs a x at → ensured κs a y at' → part κs x ≡ part κs y
