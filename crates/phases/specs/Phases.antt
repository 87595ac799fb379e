-- Document 01, "State and phases": the orders, the phase table, the limits by order, and the engine phases.
-- Assumes nothing.
use Rattle.std.specs.Prelude.{Bool, ◌&&◌, List, [], ◌∷◌, ℕ, leb, get_or}
use Rattle.limits.specs.declared.Table.{Table}
use Rattle.limits.specs.Limits.{entry}

-- orders, numbered as the entries of their device limits; 0 is no order
abbrev pub sync : ℕ
sync = 1

abbrev pub zero_torque : ℕ
zero_torque = 2

abbrev pub «open» : ℕ
«open» = 3

abbrev pub close : ℕ
close = 4

abbrev pub set : ℕ
set = 5

abbrev pub release : ℕ
release = 6

-- the phases without an order
abbrev pub at_rest : ℕ
at_rest = 0

abbrev pub done : ℕ
done = 22

abbrev pub error : ℕ
error = 23

-- a row of the phase table: the order, the next phase when taken, and the phase after asking for the clutch; 0 where there is none
pub record Row : Type 0 where
  pub order : ℕ
  pub next : ℕ
  pub clutch : ℕ

abbrev pub row : ℕ → ℕ → ℕ → Row
row o n c = record { order = o; next = n; clutch = c }

abbrev pub rows : List Row
rows =
    row 0 0 0  -- 0 at rest
    ∷ row sync 3 2  -- 1 (from neutral)
    ∷ row «open» 4 0  -- 2
    ∷ row set 22 0  -- 3
    ∷ row set 5 0  -- 4
    ∷ row close 22 0  -- 5
    ∷ row zero_torque 8 7  -- 6 (gear to gear)
    ∷ row «open» 9 0  -- 7
    ∷ row release 10 0  -- 8
    ∷ row release 14 0  -- 9
    ∷ row sync 12 11  -- 10
    ∷ row «open» 13 0  -- 11
    ∷ row set 22 0  -- 12
    ∷ row set 15 0  -- 13
    ∷ row set 16 0  -- 14
    ∷ row close 22 0  -- 15
    ∷ row close 22 0  -- 16
    ∷ row zero_torque 19 18  -- 17 (to neutral)
    ∷ row «open» 20 0  -- 18
    ∷ row release 22 0  -- 19
    ∷ row release 21 0  -- 20
    ∷ row close 22 0  -- 21
    ∷ row 0 0 0  -- 22 done
    ∷ row 0 0 0  -- 23 error
    ∷ []

abbrev pub row_of : ℕ → Row
row_of p = get_or rows p (row 0 0 0)

abbrev pub order_of : ℕ → ℕ
order_of p = (row_of p).order

abbrev pub next_of : ℕ → ℕ
next_of p = (row_of p).next

abbrev pub clutch_of : ℕ → ℕ
clutch_of p = (row_of p).clutch

-- ---- limits by order: the entry's number stands at the order's; 22 is no entry, and counts as 0
abbrev pub limit_by : List ℕ → Table → ℕ → ℕ
limit_by numbers t o = entry t (get_or numbers o 22)

-- device limits: sync 1, zero torque 2, open 3, close 4, set 5, release 6
abbrev pub device_entries : List ℕ
device_entries = 22 ∷ 1 ∷ 2 ∷ 3 ∷ 4 ∷ 5 ∷ 6 ∷ []

abbrev pub device_limit : Table → ℕ → ℕ
device_limit = limit_by device_entries

-- phase limits: sync 9, zero torque 10, open 13, set 14, release 15, close 16
abbrev pub phase_entries : List ℕ
phase_entries = 22 ∷ 9 ∷ 10 ∷ 13 ∷ 16 ∷ 14 ∷ 15 ∷ []

abbrev pub phase_limit : Table → ℕ → ℕ
phase_limit = limit_by phase_entries

-- EX: sync 7, zero torque 8
abbrev pub ex_entries : List ℕ
ex_entries = 22 ∷ 7 ∷ 8 ∷ []

abbrev pub latest_take : Table → ℕ → ℕ
latest_take = limit_by ex_entries

-- DE: sync 11, zero torque 12
abbrev pub de_entries : List ℕ
de_entries = 22 ∷ 11 ∷ 12 ∷ []

abbrev pub earliest_ask : Table → ℕ → ℕ
earliest_ask = limit_by de_entries

-- plain delays: open 18, close 20
abbrev pub plain_entries : List ℕ
plain_entries = 22 ∷ 22 ∷ 22 ∷ 18 ∷ 20 ∷ []

abbrev pub plain_delay : Table → ℕ → ℕ
plain_delay = limit_by plain_entries

-- error delays: open 19, close 21
abbrev pub error_entries : List ℕ
error_entries = 22 ∷ 22 ∷ 22 ∷ 19 ∷ 21 ∷ []

abbrev pub error_delay : Table → ℕ → ℕ
error_delay = limit_by error_entries

-- a shift is unfinished in phases 1 to 21
abbrev pub unfinished : ℕ → Bool
unfinished p = leb 1 p && leb p 21

-- the engine phases 1, 6, 10 and 17: those whose order is sync or zero torque
abbrev pub engine : ℕ → Bool
engine p = leb sync (order_of p) && leb (order_of p) zero_torque

-- the open and close phases: those whose order is the clutch's
abbrev pub clutch_order : ℕ → Bool
clutch_order p = leb «open» (order_of p) && leb (order_of p) close
