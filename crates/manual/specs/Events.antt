-- An event of machine m9: its guards, each with the number that refuses where it does not hold, and its actions.
-- Assumes nothing.
use Rattle.std.specs.Prelude.{Bool, true, cond, ◌&&◌, List, [], ◌∷◌, ℕ, eqb}
use Rattle.checks.specs.Checks.{Check, first}
use Rattle.manual.specs.declared.Variables.{Variables}
use Rattle.manual.specs.declared.Event.{Event}

-- the guards on flags, which are those with the number 7, hold
abbrev pub flags_hold : Bool → List Check → Bool
flags_hold b [] = b
flags_hold b (c ∷ cs) = flags_hold (cond (eqb c.number 7) (b && c.ok) b) cs

-- the other guards, on isNeu and on times
abbrev pub others : List Check → List Check
others [] = []
others (c ∷ cs) = cond (eqb c.number 7) (others cs) (c ∷ others cs)

-- one action after another; no action changes what another one of its event reads
abbrev pub acted : List (Variables → Variables) → Variables → Variables
acted [] v = v
acted (a ∷ rest) v = acted rest (a v)

-- enabled: the guards on flags hold. Its number is 0, or that of the first other guard that does not hold; its excess is the
-- milliseconds by which its guard on times fails, 0 where that holds
abbrev pub timed : ℕ → List Check → List (Variables → Variables) → Variables → Event
timed excess guards actions v = record {
  enabled = flags_hold true guards;
  number = first (others guards);
  excess = excess;
  after = acted actions v;
}

-- without a guard on times
abbrev pub event : List Check → List (Variables → Variables) → Variables → Event
event = timed 0

-- an event whose guards are all on flags: these hold or not, and it leads to these variables
abbrev pub free : Bool → Variables → Event
free enabled after = record { enabled = enabled; number = 0; excess = 0; after = after }

-- the number of what an event answers: 7 where it is not enabled
abbrev pub answered : Event → ℕ
answered e = cond e.enabled e.number 7

-- and its excess: 0 where it is not enabled
abbrev pub exceeded : Event → ℕ
exceeded e = cond e.enabled e.excess 0

-- the first of two that is enabled, the second where none is
unfoldable pub or_else : Event → Event → Event
or_else a b = cond a.enabled a b

-- the first of some events that is enabled, the last where none is
abbrev pub first_of : Event → List Event → Event
first_of a [] = a
first_of a (b ∷ es) = or_else a (first_of b es)
