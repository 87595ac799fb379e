-- Laws on the first of some events that is enabled: asked from the first on it is the same.
-- Assumes nothing.
use mathlib.Core.Path.{◌≡◌, refl, ◌∙◌}
use mathlib.Core.Bool.{Bool, true, false, cond}
use Rattle.std.specs.Prelude.{List, [], ◌∷◌, fold}
use Rattle.manual.specs.declared.Event.{Event}
use Rattle.manual.specs.Events.{or_else, first_of}

unchosen : (b : Bool) (x y z : Event) → b ≡ x.enabled → cond (cond b x y).enabled (cond b x y) z ≡ cond b x (cond y.enabled y z)
unchosen true x y z e = rw (← e)
unchosen false x y z e = refl

grouped : (x y z : Event) → or_else (or_else x y) z ≡ or_else x (or_else y z)
unfolding or_else
grouped x y z = unchosen x.enabled x y z refl

ahead : (a b : Event) (es : List Event) → first_of (or_else a b) es ≡ or_else a (first_of b es)
ahead a b [] = refl
ahead a b (c ∷ es) = grouped a b (first_of c es)

pub is_folded : (a : Event) (es : List Event) → fold or_else a es ≡ first_of a es
is_folded a [] = refl
is_folded a (b ∷ es) = is_folded (or_else a b) es ∙ ahead a b es
