-- Document 02's reset, which the manual does not have: from any error it lowers every flag. isNeu and the times stay.
-- Assumes nothing.
use Rattle.std.specs.Prelude.{Bool, false, ◌||◌, [], ◌∷◌}
use Rattle.checks.specs.Checks.{◌!◌}
use Rattle.manual.specs.declared.Variables.{Variables}
use Rattle.manual.specs.declared.Event.{Event}
use Rattle.manual.specs.Names.{Flag}
use Rattle.manual.specs.Variables.{time_of, variables}
use Rattle.manual.specs.Events.{event}

-- an error flag of the controller is up
abbrev pub erred : Variables → Bool
erred v =
    v.Error_FromNeu_OpenClutch
    || v.Error_FromNeu_SetGear_NoClutch
    || v.Error_FromNeu_SetGear_Clutch
    || v.Error_FromNeu_CloseClutch
    || v.Error_ToNeu_OpenClutch
    || v.Error_ToNeu_Release_NoClutch
    || v.Error_ToNeu_Release_Clutch
    || v.Error_ToNeu_CloseClutch
    || v.Error_NoNeu_OpenClutch_Releasing
    || v.Error_NoNeu_Release_Clutch
    || v.Error_NoNeu_Release_NoClutch
    || v.Error_NoNeu_OpenClutch_Setting
    || v.Error_NoNeu_SetGear_NoClutch
    || v.Error_NoNeu_SetGear_ReleasingClutch
    || v.Error_NoNeu_SetGear_SettingClutch
    || v.Error_NoNeu_CloseClutch_Releasing
    || v.Error_NoNeu_CloseClutch_Setting

-- every flag := FALSE
abbrev pub lower_all : Variables → Variables
lower_all v = variables v.time v.isNeu (λ (f : Flag). false) (time_of v)

abbrev pub RESET : Variables → Event
RESET v = event ((erred v ! 7) ∷ []) (lower_all ∷ []) v
