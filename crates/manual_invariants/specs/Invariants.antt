-- The manual's invariants under its labels, as far as they speak of machine m9's variables: of flags, then of times.
-- Assumes nothing.
use Rattle.std.specs.Prelude.{Bool, not, ◌&&◌, ◌||◌, List, [], ◌∷◌, ℕ, ◌+◌, T, leb}
use Rattle.limits.specs.declared.Table.{Table}
use Rattle.manual.specs.declared.Variables.{Variables}
use Rattle.manual.specs.Final.{FINAL}
use Rattle.manual.specs.Reset.{erred}

-- an invariant, under the number of its label
pub record Invariant : Type 0 where
  pub label : ℕ
  pub formula : Bool

abbrev pub inv : ℕ → Bool → Invariant
inv k b = record { label = k; formula = b }

-- where the first holds, the second does
infixr 20 ◌⇒◌
abbrev pub ◌⇒◌ : Bool → Bool → Bool
a ⇒ b = not a || b

-- all of them hold
abbrev pub Hold : List Invariant → Type 0
Hold [] = Unit {0}
Hold (i ∷ is) = T i.formula × Hold is

-- Left out: what says of which type a variable is, which its declaration says here, and what names a variable that m9 no longer has,
-- such as Request, Response, FromNeu, Error_FromNeu or Setting_FromNeu_Clutch. Of m0, m2, m3 and m4 nothing is left.

-- ---- flags

-- m1; left out: inv1 to inv5, inv9 to inv36
abbrev pub m1 : Variables → List Invariant
m1 v =
    inv 6 (v.RequestFromNeu ⇒ not v.RequestToNeu && not v.RequestNoNeu)
    ∷ inv 7 (v.RequestToNeu ⇒ not v.RequestFromNeu && not v.RequestNoNeu)
    ∷ inv 8 (v.RequestNoNeu ⇒ not v.RequestFromNeu && not v.RequestToNeu)
    ∷ []

-- m5, from neutral; left out: inv1 to inv4, inv11, inv12
abbrev pub m5 : Variables → List Invariant
m5 v =
    inv 5 (v.FromNeu_SyncSpeed || v.FromNeu_OpenClutch ⇒ v.RequestFromNeu)
    ∷ inv 6 (v.FromNeu_SetGear_Clutch ⇒ v.FromNeu_OpenClutch)
    ∷ inv 7 (v.FromNeu_SetGear_NoClutch ⇒ v.FromNeu_SyncSpeed)
    ∷ inv 8 (v.FromNeu_SyncSpeed ⇒ not v.FromNeu_OpenClutch && not v.Error_FromNeu_OpenClutch)
    ∷ inv 9 (v.FromNeu_CloseClutch ⇒ v.FromNeu_SetGear_Clutch)
    ∷ inv 10 (not v.FromNeu_OpenClutch ⇒ not v.FromNeu_CloseClutch)
    ∷ inv 13 (v.FromNeu_SetGear_Clutch ⇒ not v.Error_FromNeu_SetGear_Clutch)
    ∷ inv 14 (v.FromNeu_SetGear_NoClutch ⇒ not v.Error_FromNeu_SetGear_NoClutch)
    ∷ inv 15 (v.FromNeu_CloseClutch ⇒ not v.Error_FromNeu_CloseClutch)
    ∷ inv 16 (v.FromNeu_OpenClutch ⇒ not v.Error_FromNeu_OpenClutch)
    ∷ inv 17 (v.RequestFromNeu && v.Error_FromNeu_SetGear_Clutch ⇒ v.FromNeu_OpenClutch)
    ∷ inv 18 (v.RequestFromNeu && v.Error_FromNeu_SetGear_NoClutch ⇒ v.FromNeu_SyncSpeed)
    ∷ inv 19 (v.RequestFromNeu && v.Error_FromNeu_CloseClutch ⇒ v.FromNeu_SetGear_Clutch)
    ∷ []

-- m6, to neutral; left out: inv1 to inv4, inv11, inv12
abbrev pub m6 : Variables → List Invariant
m6 v =
    inv 5 (v.ToNeu_ZeroTorque || v.ToNeu_OpenClutch ⇒ v.RequestToNeu)
    ∷ inv 6 (v.ToNeu_Release_NoClutch ⇒ v.ToNeu_ZeroTorque)
    ∷ inv 7 (v.ToNeu_Release_Clutch ⇒ v.ToNeu_OpenClutch)
    ∷ inv 8 (v.ToNeu_ZeroTorque ⇒ not v.ToNeu_OpenClutch && not v.Error_ToNeu_OpenClutch)
    ∷ inv 9 (v.ToNeu_CloseClutch ⇒ v.ToNeu_Release_Clutch)
    ∷ inv 10 (not v.ToNeu_OpenClutch ⇒ not v.ToNeu_CloseClutch)
    ∷ inv 13 (v.ToNeu_Release_Clutch ⇒ not v.Error_ToNeu_Release_Clutch)
    ∷ inv 14 (v.ToNeu_Release_NoClutch ⇒ not v.Error_ToNeu_Release_NoClutch)
    ∷ inv 15 (v.ToNeu_CloseClutch ⇒ not v.Error_ToNeu_CloseClutch)
    ∷ inv 16 (v.ToNeu_OpenClutch ⇒ not v.Error_ToNeu_OpenClutch)
    ∷ inv 17 (v.RequestToNeu && v.Error_ToNeu_Release_Clutch ⇒ v.ToNeu_OpenClutch)
    ∷ inv 18 (v.RequestToNeu && v.Error_ToNeu_Release_NoClutch ⇒ v.ToNeu_ZeroTorque)
    ∷ inv 19 (v.RequestToNeu && v.Error_ToNeu_CloseClutch ⇒ v.ToNeu_Release_Clutch)
    ∷ []

-- m7, gear to gear; left out: inv1 to inv7, inv12, inv13, inv26, inv27, inv53, inv54
abbrev pub m7 : Variables → List Invariant
m7 v =
    inv 8 (v.NoNeu_ZeroTorque || v.NoNeu_OpenClutch_Releasing ⇒ v.RequestNoNeu)
    ∷ inv 9 (v.NoNeu_Release_NoClutch ⇒ v.NoNeu_ZeroTorque)
    ∷ inv 10 (v.NoNeu_Release_Clutch ⇒ v.NoNeu_OpenClutch_Releasing)
    ∷ inv 11 (v.NoNeu_ZeroTorque ⇒ not v.NoNeu_OpenClutch_Releasing && not v.Error_NoNeu_OpenClutch_Releasing)
    ∷ inv 14 (v.NoNeu_Release_Clutch ⇒ not v.Error_NoNeu_Release_Clutch)
    ∷ inv 15 (v.NoNeu_Release_NoClutch ⇒ not v.Error_NoNeu_Release_NoClutch)
    ∷ inv 16 (v.NoNeu_OpenClutch_Releasing ⇒ not v.Error_NoNeu_OpenClutch_Releasing)
    ∷ inv 17 (v.RequestNoNeu && v.Error_NoNeu_Release_Clutch ⇒ v.NoNeu_OpenClutch_Releasing)
    ∷ inv 18 (v.RequestNoNeu && v.Error_NoNeu_Release_NoClutch ⇒ v.NoNeu_ZeroTorque)
    ∷ inv 19 (v.NoNeu_SyncSpeed || v.NoNeu_OpenClutch_Setting ⇒ v.NoNeu_Release_NoClutch)
    ∷ inv 20 (v.NoNeu_SetGear_ReleasingClutch ⇒ v.NoNeu_Release_Clutch)
    ∷ inv 21 (v.NoNeu_SetGear_SettingClutch ⇒ v.NoNeu_OpenClutch_Setting)
    ∷ inv 22 (v.NoNeu_SetGear_NoClutch ⇒ v.NoNeu_SyncSpeed)
    ∷ inv 23 (v.NoNeu_SyncSpeed ⇒ not v.NoNeu_OpenClutch_Setting && not v.Error_NoNeu_OpenClutch_Setting)
    ∷ inv 24 (v.NoNeu_CloseClutch_Releasing ⇒ v.NoNeu_SetGear_ReleasingClutch)
    ∷ inv 25 (v.NoNeu_CloseClutch_Setting ⇒ v.NoNeu_SetGear_SettingClutch)
    ∷ inv 28 (v.NoNeu_SetGear_ReleasingClutch ⇒ not v.Error_NoNeu_SetGear_ReleasingClutch)
    ∷ inv 29 (v.NoNeu_SetGear_SettingClutch ⇒ not v.Error_NoNeu_SetGear_SettingClutch)
    ∷ inv 30 (v.NoNeu_SetGear_NoClutch ⇒ not v.Error_NoNeu_SetGear_NoClutch)
    ∷ inv 31 (v.NoNeu_CloseClutch_Releasing ⇒ not v.Error_NoNeu_CloseClutch_Releasing)
    ∷ inv 32 (v.NoNeu_CloseClutch_Setting ⇒ not v.Error_NoNeu_CloseClutch_Setting)
    ∷ inv 33 (v.NoNeu_OpenClutch_Releasing ⇒ not v.Error_NoNeu_OpenClutch_Releasing)
    ∷ inv 34 (v.NoNeu_OpenClutch_Setting ⇒ not v.Error_NoNeu_OpenClutch_Setting)
    ∷ inv 35 (v.RequestNoNeu && v.Error_NoNeu_SetGear_ReleasingClutch ⇒ v.NoNeu_Release_Clutch)
    ∷ inv 36 (v.RequestNoNeu && v.Error_NoNeu_SetGear_SettingClutch ⇒ v.NoNeu_OpenClutch_Setting)
    ∷ inv 37 (v.RequestNoNeu && v.Error_NoNeu_SetGear_NoClutch ⇒ v.NoNeu_SyncSpeed)
    ∷ inv 38 (v.RequestNoNeu && v.Error_NoNeu_CloseClutch_Releasing ⇒ v.NoNeu_SetGear_ReleasingClutch)
    ∷ inv 39 (v.RequestNoNeu && v.Error_NoNeu_CloseClutch_Setting ⇒ v.NoNeu_SetGear_SettingClutch)
    ∷ inv 40 (v.RequestNoNeu && v.Error_NoNeu_OpenClutch_Setting ⇒ v.NoNeu_Release_NoClutch)
    ∷ inv 41 (v.NoNeu_Release_Clutch ⇒ not v.NoNeu_SyncSpeed && not v.NoNeu_OpenClutch_Setting)
    ∷ []

-- m8, the devices; left out: inv1, inv4
abbrev pub m8 : Variables → List Invariant
m8 v =
    inv 2 (v.Engine_SyncSpeed ⇒ v.RequestFromNeu || v.NoNeu_Release_NoClutch)
    ∷ inv 3 (v.Engine_ZeroTorque ⇒ v.RequestToNeu || v.RequestNoNeu)
    ∷ inv 5 (v.FromNeu_RequestOpenClutch ⇒ not v.FromNeu_SyncSpeed && v.RequestFromNeu)
    ∷ inv 6 (not v.FromNeu_RequestOpenClutch ⇒ not v.FromNeu_OpenClutch && not v.Error_FromNeu_OpenClutch)
    ∷ inv 7 (v.ToNeu_RequestOpenClutch ⇒ not v.ToNeu_ZeroTorque && v.RequestToNeu)
    ∷ inv 8 (not v.ToNeu_RequestOpenClutch ⇒ not v.ToNeu_OpenClutch && not v.Error_ToNeu_OpenClutch)
    ∷ inv 9 (v.NoNeu_RequestOpenClutch_Releasing ⇒ not v.NoNeu_ZeroTorque && v.RequestNoNeu)
    ∷ inv 10 (not v.NoNeu_RequestOpenClutch_Releasing ⇒ not v.NoNeu_OpenClutch_Releasing && not v.Error_NoNeu_OpenClutch_Releasing)
    ∷ inv 11 (v.NoNeu_RequestOpenClutch_Setting ⇒ not v.NoNeu_SyncSpeed && v.NoNeu_Release_NoClutch)
    ∷ inv 12 (not v.NoNeu_RequestOpenClutch_Setting ⇒ not v.NoNeu_OpenClutch_Setting && not v.Error_NoNeu_OpenClutch_Setting)
    ∷ []

-- m9, the channel; left out: inv1, inv2
abbrev pub m9 : Variables → List Invariant
m9 v =
    inv 3 (v.Engine_Request_SyncSpeed ⇒ v.RequestFromNeu || v.NoNeu_Release_NoClutch)
    ∷ inv 4 (v.Engine_Request_ZeroTorque ⇒ v.RequestToNeu || v.RequestNoNeu)
    ∷ inv 5 (v.Clutch_Request_Open ⇒ v.FromNeu_RequestOpenClutch || v.ToNeu_RequestOpenClutch || v.NoNeu_RequestOpenClutch_Releasing || v.NoNeu_RequestOpenClutch_Setting)
    ∷ inv 6 (v.Clutch_Request_Close ⇒ v.FromNeu_SetGear_Clutch || v.ToNeu_Release_Clutch || v.NoNeu_SetGear_ReleasingClutch || v.NoNeu_SetGear_SettingClutch)
    ∷ inv 7 (v.Gear_Request_Release ⇒ v.ToNeu_ZeroTorque || v.ToNeu_OpenClutch || v.NoNeu_ZeroTorque || v.NoNeu_OpenClutch_Releasing)
    ∷ inv 8 (v.Gear_Request_Set ⇒ v.FromNeu_SyncSpeed || v.FromNeu_OpenClutch || v.NoNeu_Release_Clutch || v.NoNeu_SyncSpeed || v.NoNeu_OpenClutch_Setting)
    ∷ []

-- Ours, not the manual's, and numbered here: an error of the controller is one of its device (1 to 4), and where FINAL is enabled no
-- error is up (5), so that FINAL, which lowers none of the 21 error flags, leaves none behind
abbrev pub ours : Variables → List Invariant
ours v =
    inv 1 (v.Error_FromNeu_OpenClutch || v.Error_ToNeu_OpenClutch || v.Error_NoNeu_OpenClutch_Releasing || v.Error_NoNeu_OpenClutch_Setting ⇒ v.Error_Clutch_Open)
    ∷ inv 2 (v.Error_FromNeu_CloseClutch || v.Error_ToNeu_CloseClutch || v.Error_NoNeu_CloseClutch_Releasing || v.Error_NoNeu_CloseClutch_Setting ⇒ v.Error_Clutch_Close)
    ∷ inv 3 (v.Error_ToNeu_Release_NoClutch || v.Error_ToNeu_Release_Clutch || v.Error_NoNeu_Release_NoClutch || v.Error_NoNeu_Release_Clutch ⇒ v.Error_Gear_Release)
    ∷ inv 4 (v.Error_FromNeu_SetGear_NoClutch || v.Error_FromNeu_SetGear_Clutch || v.Error_NoNeu_SetGear_NoClutch || v.Error_NoNeu_SetGear_ReleasingClutch || v.Error_NoNeu_SetGear_SettingClutch ⇒ v.Error_Gear_Set)
    ∷ inv 5 ((FINAL v).enabled ⇒ not (erred v) && not v.Error_Clutch_Open && not v.Error_Clutch_Close && not v.Error_Gear_Release && not v.Error_Gear_Set)
    ∷ []

pub record FlagInvariants (v : Variables) : Type 0 where
  pub m1 : Hold (m1 v)
  pub m5 : Hold (m5 v)
  pub m6 : Hold (m6 v)
  pub m7 : Hold (m7 v)
  pub m8 : Hold (m8 v)
  pub m9 : Hold (m9 v)
  pub ours : Hold (ours v)

-- ---- times

-- SyncOpen_DL and ZeroOpen_DL of contexts c2 and c3 are no entries of the table. Context c5 bounds them from below by these sums
-- (axm5, axm3), so that what holds under the sums holds under them; by both defaults the sums are 355 and 455, as the manual has them
abbrev pub SyncOpen_DL : Table → ℕ
SyncOpen_DL t = t.sync_dl + t.open_clutch_dl

abbrev pub ZeroOpen_DL : Table → ℕ
ZeroOpen_DL t = t.zero_dl + t.open_clutch_dl

-- m5
abbrev pub m5_times : Table → Variables → List Invariant
m5_times t v =
    inv 20 (v.FromNeu_SyncSpeed ⇒ leb v.FromNeu_SyncSpeedT (v.RequestFromNeuT + SyncOpen_DL t))
    ∷ inv 21 (v.FromNeu_OpenClutch ⇒ leb v.FromNeu_OpenClutchT (v.RequestFromNeuT + SyncOpen_DL t))
    ∷ inv 22 (v.FromNeu_SetGear_Clutch ⇒ leb v.FromNeu_SetGear_ClutchT (v.FromNeu_OpenClutchT + t.set_gear_dl))
    ∷ inv 23 (v.RequestFromNeu && not v.FromNeu_SyncSpeed && not v.FromNeu_OpenClutch && not v.Error_FromNeu_OpenClutch ⇒ leb v.time (SyncOpen_DL t + v.RequestFromNeuT))
    ∷ inv 24 (v.FromNeu_OpenClutch && not v.FromNeu_SetGear_Clutch && not v.Error_FromNeu_SetGear_Clutch ⇒ leb v.time (t.set_gear_dl + v.FromNeu_OpenClutchT))
    ∷ []

-- m6
abbrev pub m6_times : Table → Variables → List Invariant
m6_times t v =
    inv 20 (v.ToNeu_ZeroTorque ⇒ leb v.ToNeu_ZeroTorqueT (v.RequestToNeuT + ZeroOpen_DL t))
    ∷ inv 21 (v.ToNeu_OpenClutch ⇒ leb v.ToNeu_OpenClutchT (v.RequestToNeuT + ZeroOpen_DL t))
    ∷ inv 22 (v.ToNeu_Release_Clutch ⇒ leb v.ToNeu_Release_ClutchT (v.ToNeu_OpenClutchT + t.release_dl))
    ∷ inv 23 (v.RequestToNeu && not v.ToNeu_ZeroTorque && not v.ToNeu_OpenClutch && not v.Error_ToNeu_OpenClutch ⇒ leb v.time (ZeroOpen_DL t + v.RequestToNeuT))
    ∷ inv 24 (v.ToNeu_OpenClutch && not v.ToNeu_Release_Clutch && not v.Error_ToNeu_Release_Clutch ⇒ leb v.time (t.release_dl + v.ToNeu_OpenClutchT))
    ∷ []

-- m7
abbrev pub m7_times : Table → Variables → List Invariant
m7_times t v =
    inv 42 (v.NoNeu_ZeroTorque ⇒ leb v.NoNeu_ZeroTorqueT (v.RequestNoNeuT + t.zero_ex))
    ∷ inv 43 (v.NoNeu_OpenClutch_Releasing ⇒ leb v.NoNeu_OpenClutch_ReleasingT (v.RequestNoNeuT + ZeroOpen_DL t))
    ∷ inv 44 (v.NoNeu_SyncSpeed ⇒ leb v.NoNeu_SyncSpeedT (v.NoNeu_Release_NoClutchT + t.sync_ex))
    ∷ inv 45 (v.NoNeu_OpenClutch_Setting ⇒ leb v.NoNeu_OpenClutch_SettingT (v.NoNeu_Release_NoClutchT + SyncOpen_DL t))
    ∷ inv 46 (v.NoNeu_SetGear_ReleasingClutch ⇒ leb v.NoNeu_SetGear_ReleasingClutchT (v.NoNeu_Release_ClutchT + t.set_gear_dl))
    ∷ inv 47 (v.NoNeu_SetGear_SettingClutch ⇒ leb v.NoNeu_SetGear_SettingClutchT (v.NoNeu_OpenClutch_SettingT + t.set_gear_dl))
    ∷ inv 48 (v.RequestNoNeu && not v.NoNeu_ZeroTorque && not v.NoNeu_OpenClutch_Releasing && not v.Error_NoNeu_OpenClutch_Releasing ⇒ leb v.time (ZeroOpen_DL t + v.RequestNoNeuT))
    ∷ inv 49 (v.NoNeu_Release_NoClutch && not v.NoNeu_SyncSpeed && not v.NoNeu_OpenClutch_Setting && not v.Error_NoNeu_OpenClutch_Setting ⇒ leb v.time (SyncOpen_DL t + v.NoNeu_Release_NoClutchT))
    ∷ inv 50 (v.NoNeu_Release_Clutch && not v.NoNeu_SetGear_ReleasingClutch && not v.Error_NoNeu_SetGear_ReleasingClutch ⇒ leb v.time (t.set_gear_dl + v.NoNeu_Release_ClutchT))
    ∷ inv 51 (v.NoNeu_OpenClutch_Setting && not v.NoNeu_SetGear_SettingClutch && not v.Error_NoNeu_SetGear_SettingClutch ⇒ leb v.time (t.set_gear_dl + v.NoNeu_OpenClutch_SettingT))
    ∷ inv 52 (v.NoNeu_ZeroTorque && not v.NoNeu_Release_NoClutch && not v.Error_NoNeu_Release_NoClutch ⇒ leb v.time (t.release_dl + v.NoNeu_ZeroTorqueT))
    ∷ inv 55 (v.NoNeu_Release_NoClutch ⇒ leb v.NoNeu_Release_NoClutchT (v.NoNeu_ZeroTorqueT + t.release_dl))
    ∷ inv 56 (v.NoNeu_ZeroTorque && not v.NoNeu_Release_NoClutch && not v.Error_NoNeu_Release_NoClutch ⇒ leb v.time (t.release_dl + v.NoNeu_ZeroTorqueT))
    ∷ []

-- m8
abbrev pub m8_times : Table → Variables → List Invariant
m8_times t v =
    inv 13 (v.FromNeu_RequestOpenClutch ⇒ leb v.FromNeu_RequestOpenClutchT (v.RequestFromNeuT + t.sync_dl))
    ∷ inv 14 (v.ToNeu_RequestOpenClutch ⇒ leb v.ToNeu_RequestOpenClutchT (v.RequestToNeuT + t.zero_dl))
    ∷ inv 15 (v.NoNeu_RequestOpenClutch_Releasing ⇒ leb v.NoNeu_RequestOpenClutch_ReleasingT (v.RequestNoNeuT + t.zero_dl))
    ∷ inv 16 (v.NoNeu_RequestOpenClutch_Setting ⇒ leb v.NoNeu_RequestOpenClutch_SettingT (v.NoNeu_Release_NoClutchT + t.sync_dl))
    ∷ inv 17 (v.RequestFromNeu && not v.FromNeu_RequestOpenClutch && not v.FromNeu_SyncSpeed ⇒ leb v.time (t.sync_dl + v.RequestFromNeuT))
    ∷ inv 18 (v.RequestToNeu && not v.ToNeu_RequestOpenClutch && not v.ToNeu_ZeroTorque ⇒ leb v.time (t.zero_dl + v.RequestToNeuT))
    ∷ inv 19 (v.RequestNoNeu && not v.NoNeu_ZeroTorque && not v.NoNeu_RequestOpenClutch_Releasing ⇒ leb v.time (t.zero_dl + v.RequestNoNeuT))
    ∷ inv 20 (v.NoNeu_Release_NoClutch && not v.NoNeu_SyncSpeed && not v.NoNeu_RequestOpenClutch_Setting ⇒ leb v.time (t.sync_dl + v.NoNeu_Release_NoClutchT))
    ∷ []

pub record TimeInvariants (t : Table) (v : Variables) : Type 0 where
  pub m5 : Hold (m5_times t v)
  pub m6 : Hold (m6_times t v)
  pub m7 : Hold (m7_times t v)
  pub m8 : Hold (m8_times t v)

pub record Invariants (t : Table) (v : Variables) : Type 0 where
  pub flags : FlagInvariants v
  pub times : TimeInvariants t v
