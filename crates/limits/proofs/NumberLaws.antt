-- The numbers of the rules: a number is that of one rule, and 0 that of none.
-- Assumes nothing.
use mathlib.Core.Path.{◌≡◌, refl, sym, ap, ◌∙◌}
use mathlib.Core.List.{[], ◌∷◌}
use Prim.Native.Nat.{ℕ, ◌≤◌}
use native.Mathlib.Omega.{arith}
use lib.ListN.{get_or}
use Rattle.std.specs.Prelude.{Result, Ok, Err}
use Rattle.limits.specs.declared.Rule.{Rule}
use Rattle.limits.specs.declared.Rule.TheVariants.{Set, SyncEx, ZeroEx, Open, Close, SetGear, Release, SyncDe, ZeroDe, SyncDl, ZeroDl, RouteF, RouteN, RouteG1, RouteG2, Delays}
use Rattle.limits.specs.Rules.{number_of, broken_in}

-- the rule of a number; 0 stands for any
abbrev pub rule_of : ℕ → Rule
rule_of n = get_or (Set ∷ Set ∷ SyncEx ∷ ZeroEx ∷ Open ∷ Close ∷ SetGear ∷ Release ∷ SyncDe ∷ ZeroDe ∷ SyncDl ∷ ZeroDl ∷ RouteF ∷ RouteN ∷ RouteG1 ∷ RouteG2 ∷ Delays ∷ []) n Set

pub again : (r : Rule) → rule_of (number_of r) ≡ r
again Set = refl
again SyncEx = refl
again ZeroEx = refl
again Open = refl
again Close = refl
again SetGear = refl
again Release = refl
again SyncDe = refl
again ZeroDe = refl
again SyncDl = refl
again ZeroDl = refl
again RouteF = refl
again RouteN = refl
again RouteG1 = refl
again RouteG2 = refl
again Delays = refl

positive : (r : Rule) → 1 ≤ number_of r
positive Set = omega arith
positive SyncEx = omega arith
positive ZeroEx = omega arith
positive Open = omega arith
positive Close = omega arith
positive SetGear = omega arith
positive Release = omega arith
positive SyncDe = omega arith
positive ZeroDe = omega arith
positive SyncDl = omega arith
positive ZeroDl = omega arith
positive RouteF = omega arith
positive RouteN = omega arith
positive RouteG1 = omega arith
positive RouteG2 = omega arith
positive Delays = omega arith

pub some_number : (r : Rule) → ¬ (number_of r ≡ 0)
some_number r e = omega (arith, positive r)

pub same_rule : (x y : Rule) → number_of x ≡ number_of y → x ≡ y
same_rule x y e = sym (again x) ∙ ap rule_of e ∙ again y

pub same_answer : (x y : Result (Unit {0}) Rule) → broken_in x ≡ broken_in y → x ≡ y
same_answer (Ok u) (Ok v) e = refl
same_answer (Ok u) (Err y) e = absurd (some_number y (sym e))
same_answer (Err x) (Ok v) e = absurd (some_number x e)
same_answer (Err x) (Err y) e = ap (λ (r : Rule). Err r) (same_rule x y e)
