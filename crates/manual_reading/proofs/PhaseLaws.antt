-- Laws on phases that are looked for one after the other: the first that was entered and not left is found.
-- Assumes nothing.
use mathlib.Core.Path.{◌≡◌, refl, ap, sym, ◌∙◌}
use mathlib.Core.Bool.{Bool, true, false, cond}
use lib.Dec.{eqb}
use Rattle.std.proofs.Common.{rules}
use Rattle.std.specs.Prelude.{List, [], ◌∷◌, Option, None, Some, ◌&&◌, not, fold}
use Rattle.std.specs.List.{find}
use Rattle.manual_reading.specs.declared.Phase.{Phase}
use Rattle.manual_reading.specs.declared.Candidate.{Candidate}
use Rattle.manual_reading.specs.Reading.{phase, or_phase, first_entered}

abbrev pub next : Phase → Candidate → Phase
next p c = or_phase p c.number c.entered c.left c.time c.request

abbrev pub found : Option Candidate → Phase
found None = phase 0 0 0
found (Some c) = phase c.number c.time c.request

-- no number is that of rest
abbrev pub numbered : List Candidate → Bool
numbered [] = true
numbered (c ∷ cs) = not (eqb c.number 0) && numbered cs

kept : (p : Phase) (cs : List Candidate) → eqb p.number 0 ≡ false → fold next p cs ≡ p
unfolding or_phase
kept p [] h = refl
kept p (c ∷ cs) h = rw h (kept p cs h)

entered : (c : Candidate) (cs : List Candidate) (b : Bool) → eqb c.number 0 ≡ false → fold next (phase 0 0 0) cs ≡ found (find (λ p. p.entered && not p.left) cs)
    → fold next (cond b (phase c.number c.time c.request) (phase 0 0 0)) cs ≡ found (cond b (Some c) (find (λ p. p.entered && not p.left) cs))
entered c cs true h e = kept (phase c.number c.time c.request) cs h
entered c cs false h e = e

pub is_found : (cs : List Candidate) → numbered cs ≡ true → fold next (phase 0 0 0) cs ≡ found (find (λ p. p.entered && not p.left) cs)
unfolding or_phase
is_found [] h = refl
is_found (c ∷ cs) h = entered c cs (c.entered && not c.left) (search rules) (is_found cs (search rules))

pub by_fold : (cs : List Candidate) {o : Option Candidate} → numbered cs ≡ true → o ≡ first_entered cs → found o ≡ fold next (phase 0 0 0) cs
unfolding first_entered
by_fold cs h e = ap found e ∙ sym (is_found cs h)
