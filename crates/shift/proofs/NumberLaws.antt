-- Laws on the numbers of refusals: no two refusals have the same one, and none has 0.
-- Assumes nothing.
use mathlib.Core.Path.{◌≡◌, refl, sym, ap, ◌∙◌}
use mathlib.Core.List.{[], ◌∷◌}
use Prim.Native.Nat.{ℕ, ◌-◌}
use native.Mathlib.Omega.{arith}
use lib.ListN.{get_or}
use Rattle.std.specs.Prelude.{Result, Ok, Err}
use Rattle.shift.specs.declared.Refused.{Refused}
use Rattle.shift.specs.declared.Refused.TheVariants.{NotAllowed, WrongSide, TooEarly, TooLate, PastPhase, PastStage, PastClock}
use Rattle.shift.specs.Numbers.{number_of, number_in}

-- what has this number
abbrev named : ℕ → Refused
named k =
    get_or (NotAllowed ∷ WrongSide ∷ TooEarly ∷ TooLate ∷ PastPhase ∷ PastStage ∷ PastClock ∷ []) (k - 7) NotAllowed

named_again : (e : Refused) → e ≡ named (number_of e)
named_again NotAllowed = refl
named_again WrongSide = refl
named_again TooEarly = refl
named_again TooLate = refl
named_again PastPhase = refl
named_again PastStage = refl
named_again PastClock = refl

pub one_refusal : (e f : Refused) → number_of e ≡ number_of f → e ≡ f
one_refusal e f q = named_again e ∙ ap named q ∙ sym (named_again f)

pub a_number : (e : Refused) → ¬ (number_of e ≡ 0)
a_number NotAllowed z = omega arith
a_number WrongSide z = omega arith
a_number TooEarly z = omega arith
a_number TooLate z = omega arith
a_number PastPhase z = omega arith
a_number PastStage z = omega arith
a_number PastClock z = omega arith

pub one_answer : (r q : Result (Unit {0}) Refused) → number_in r ≡ number_in q → r ≡ q
one_answer (Ok u) (Ok v) e = refl
one_answer (Ok u) (Err f) e = absurd (a_number f (sym e))
one_answer (Err e) (Ok u) q = absurd (a_number e q)
one_answer (Err e) (Err f) q = ap Err (one_refusal e f q)
