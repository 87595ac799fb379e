-- Document 02, request 5, a second time, in statements on the entries alone: each request of the records has exactly one entry, in
-- their order, and what an entry says of its shift. Nothing of Shifts.antt is used.
-- Assumes nothing.
use Rattle.std.specs.Prelude.{◌≡◌, ℕ, suc, ◌+◌, ◌<◌, ◌≤◌, ◌⊎◌, List, length, get_or, take, slice_index_or, Ok}
use Rattle.promises.specs.Verdicts.{leads, at}
use Rattle.shift.specs.declared.State.{State}
use Rattle.shift.specs.Readings.{Reading}
use Rattle.shift.specs.declared.Step.TheVariants.{FromNeutral, GearToGear, ToNeutral, AskClutch}
use Rattle.shiftlist.specs.declared.Shift.{Shift}

-- a request, and its code
abbrev pub RequestOf : Reading → ℕ → Type 0
RequestOf r code =
    ((r ≡ Ok FromNeutral) × (code ≡ 1)) ⊎ (((r ≡ Ok GearToGear) × (code ≡ 2)) ⊎ ((r ≡ Ok ToNeutral) × (code ≡ 3)))

-- an ask clutch lies among the records from a to b
pub record Asked (rs : List Reading) (a b : ℕ) : Type 0 where
  pub index : ℕ
  pub from : a ≤ index
  pub to : index ≤ b
  pub there : at rs index ≡ Ok AskClutch

-- an entry of a list for the request j; `none` is what stands past the list's end
pub record EntryOf (es : List Shift) (none : Shift) (j : ℕ) : Type 0 where
  pub number : ℕ
  pub inside : number < length es
  pub there : (get_or es number none).first ≡ j

module _ (s : State) (rs : List Reading) where
  -- the state before the record with this number, and the phase after it; the first record is made in the state s
  abbrev pub before : ℕ → State
  before j = leads s (take j rs)

  abbrev pub phase_after : ℕ → ℕ
  phase_after j = (before (suc j)).phase

  -- the shift is over after the record j: done, or in error
  abbrev pub Over : ℕ → Type 0
  Over j = (phase_after j ≡ 22) ⊎ (phase_after j ≡ 23)

  -- The first record is a request, and the kind its code. The last is the one that enters 22 or 23, else the last of all, and no other
  -- record of the shift enters 22 or 23. The route is 1 exactly where an ask clutch lies within. Request time is the clock at the
  -- request, and age the clock at the last record minus it.
  pub record Entry (e : Shift) : Type 0 where
    pub request : RequestOf (at rs e.first) e.kind
    pub order : e.first ≤ e.last
    pub within : e.last < length rs
    pub open_till_then : (j : ℕ) → e.first ≤ j → j < e.last → ¬ Over j
    pub end :
        ((e.end ≡ 1) × (phase_after e.last ≡ 22))
        ⊎ (((e.end ≡ 2) × (phase_after e.last ≡ 23)) ⊎ ((e.end ≡ 0) × ¬ Over e.last × (suc e.last ≡ length rs)))
    pub route : ((e.route ≡ 1) × Asked rs e.first e.last) ⊎ ((e.route ≡ 0) × ¬ Asked rs e.first e.last)
    pub time : e.request_time ≡ (before e.first).clock
    pub age : e.request_time + e.age ≡ (before (suc e.last)).clock

  -- each is an entry, they stand in the order of the records, and each request has one
  pub record Entries (es : List Shift) (none : Shift) : Type 0 where
    pub each : (i : ℕ) → i < length es → Entry (slice_index_or es i none)
    pub ordered : (i j : ℕ) → i < j → j < length es → (get_or es i none).first < (get_or es j none).first
    pub all : (j code : ℕ) → RequestOf (at rs j) code → EntryOf es none j

-- What more records make of a list: at most the last entry is open, the others stay as they are, and of an open one first record, kind
-- and request time.
pub record Extends (none : Shift) (old new : List Shift) : Type 0 where
  pub longer : length old ≤ length new
  pub open_last : (i : ℕ) → i < length old → (get_or old i none).end ≡ 0 → suc i ≡ length old
  pub untouched : (i : ℕ) → i < length old → ¬ ((get_or old i none).end ≡ 0) → slice_index_or new i none ≡ slice_index_or old i none
  pub gone_on :
      (i : ℕ) → i < length old
      → ((get_or new i none).first ≡ (get_or old i none).first)
      × ((get_or new i none).kind ≡ (get_or old i none).kind)
      × ((get_or new i none).request_time ≡ (get_or old i none).request_time)
