-- Machine m9: the three requests, in the manual's order and under its labels. What document 01 settles is marked on its line.
-- Assumes nothing.
use Rattle.std.specs.Prelude.{not, [], ◌∷◌}
use Rattle.checks.specs.Checks.{◌!◌}
use Rattle.manual.specs.declared.Variables.{Variables}
use Rattle.manual.specs.declared.Event.{Event}
use Rattle.manual.specs.Names.{Flag, Time}
use Rattle.manual.specs.Variables.{raise, stamp}
use Rattle.manual.specs.Events.{event}

abbrev pub RequestFromNeu : Variables → Event
RequestFromNeu v =
    event
    ((not v.RequestFromNeu ! 7)  -- grd1
    ∷ (not v.RequestNoNeu ! 7)  -- grd2
    ∷ (not v.RequestToNeu ! 7)  -- grd3
    ∷ (v.isNeu ! 8)  -- grd4
    ∷ [])
    (raise Flag.RequestFromNeu  -- act1
    ∷ stamp Time.RequestFromNeuT  -- act2
    ∷ [])
    v

abbrev pub RequestNoNeu : Variables → Event
RequestNoNeu v =
    event
    ((not v.RequestFromNeu ! 7)  -- grd1
    ∷ (not v.RequestNoNeu ! 7)  -- grd2
    ∷ (not v.RequestToNeu ! 7)  -- grd3
    ∷ (not v.isNeu ! 8)  -- grd4
    ∷ [])
    (raise Flag.RequestNoNeu  -- act1
    ∷ stamp Time.RequestNoNeuT  -- act2
    ∷ [])
    v

abbrev pub RequestToNeu : Variables → Event
RequestToNeu v =
    event
    ((not v.RequestFromNeu ! 7)  -- grd1
    ∷ (not v.RequestNoNeu ! 7)  -- grd2
    ∷ (not v.RequestToNeu ! 7)  -- grd3
    ∷ (not v.isNeu ! 8)  -- grd4
    ∷ [])
    (raise Flag.RequestToNeu  -- act1
    ∷ stamp Time.RequestToNeuT  -- act2
    ∷ [])
    v
