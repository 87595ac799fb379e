-- From place to place: which steps the flags of a place allow, where they lead, and which number refuses the others.
-- Assumes nothing.
use mathlib.Core.Bool.{Bool, true, false, not, cond, ◌&&◌}
use Prim.Native.Nat.{ℕ}
use lib.Dec.{eqb}
use Rattle.phases.specs.Phases.{next_of, clutch_of}
use Rattle.shift.specs.declared.Step.{Step}
use Rattle.shift.specs.declared.Step.TheVariants.{FromNeutral, GearToGear, ToNeutral, Deliver, DeviceGood, DeviceFailed, EngineWaits, Take, AskClutch, RaiseError, Finish, Tick, Reset}
use Rattle.manual.proofs.Places.{Place, has, engines, lasts, fallible, neutral_at}
use Rattle.manual.proofs.Places.Place.{rest, at, done, error}

abbrev at_rest : (Bool → Bool) → Place → Bool
at_rest f (rest b) = f b
at_rest f (at p g) = false
at_rest f (done p) = false
at_rest f (error p) = false

abbrev in_shift : (ℕ → ℕ → Bool) → Place → Bool
in_shift f (rest b) = false
in_shift f (at p g) = f p g
in_shift f (done p) = false
in_shift f (error p) = false

abbrev is_done : Place → Bool
is_done (rest b) = false
is_done (at p g) = false
is_done (done p) = true
is_done (error p) = false

abbrev is_error : Place → Bool
is_error (rest b) = false
is_error (at p g) = false
is_error (done p) = false
is_error (error p) = true

abbrev pub goes : Place → Step → Bool
goes c FromNeutral = at_rest (λ b. b) c
goes c GearToGear = at_rest not c
goes c ToNeutral = at_rest not c
goes c Deliver = in_shift (λ p g. eqb g 1) c
goes c DeviceGood = in_shift (λ p g. eqb g 2) c
goes c DeviceFailed = in_shift (λ p g. eqb g 2 && has p fallible) c
goes c EngineWaits = in_shift (λ p g. eqb g 2 && has p engines) c
goes c Take = in_shift (λ p g. eqb g 3) c
goes c AskClutch = in_shift (λ p g. eqb g 4 && has p engines) c
goes c RaiseError = in_shift (λ p g. eqb g 4 && has p fallible) c
goes c Finish = is_done c
goes c (Tick n) = true
goes c Reset = is_error c

abbrev shifted : (ℕ → Place) → Place → Place
shifted f (rest b) = rest b
shifted f (at p g) = f p
shifted f (done p) = done p
shifted f (error p) = error p

abbrev pub leads : Place → Step → Place
leads c FromNeutral = at 1 1
leads c GearToGear = at 6 1
leads c ToNeutral = at 17 1
leads c Deliver = shifted (λ p. at p 2) c
leads c DeviceGood = shifted (λ p. at p 3) c
leads c DeviceFailed = shifted (λ p. at p 4) c
leads c EngineWaits = shifted (λ p. at p 4) c
leads c Take = shifted (λ p. cond (has p lasts) (done p) (at (next_of p) 1)) c
leads c AskClutch = shifted (λ p. at (clutch_of p) 1) c
leads c RaiseError = shifted error c
leads c Finish = rest (neutral_at c)
leads c (Tick n) = c
leads c Reset = rest (neutral_at c)

-- one less than the number that refuses what the flags don't allow: 8 for a request at rest, else 7
abbrev requested : Place → ℕ
requested (rest b) = 7
requested (at p g) = 6
requested (done p) = 6
requested (error p) = 6

abbrev pub refusal : Place → Step → ℕ
refusal c FromNeutral = requested c
refusal c GearToGear = requested c
refusal c ToNeutral = requested c
refusal c Deliver = 6
refusal c DeviceGood = 6
refusal c DeviceFailed = 6
refusal c EngineWaits = 6
refusal c Take = 6
refusal c AskClutch = 6
refusal c RaiseError = 6
refusal c Finish = 6
refusal c (Tick n) = 6
refusal c Reset = 6
