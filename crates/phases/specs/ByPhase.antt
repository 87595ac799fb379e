-- Document 01, "State and phases", a second time: the phases of each order by number, the limits of each order by name, and the
-- phases that a phase leads to. It shares nothing with `Phases`; `proofs/ByPhaseLaws.antt` shows that the two agree.
-- Assumes nothing.
use Rattle.std.specs.Prelude.{Bool, false, cond, ◌||◌, List, [], ◌∷◌, ℕ, eqb}
use Rattle.limits.specs.declared.Table.{Table}

-- the phases of each order
abbrev pub sync_phases : List ℕ
sync_phases = 1 ∷ 10 ∷ []

abbrev pub zero_torque_phases : List ℕ
zero_torque_phases = 6 ∷ 17 ∷ []

abbrev pub open_phases : List ℕ
open_phases = 2 ∷ 7 ∷ 11 ∷ 18 ∷ []

abbrev pub set_phases : List ℕ
set_phases = 3 ∷ 4 ∷ 12 ∷ 13 ∷ 14 ∷ []

abbrev pub release_phases : List ℕ
release_phases = 8 ∷ 9 ∷ 19 ∷ 20 ∷ []

abbrev pub close_phases : List ℕ
close_phases = 5 ∷ 15 ∷ 16 ∷ 21 ∷ []

-- phases 1, 6, 10, 17 are the engine phases
abbrev pub engine_phases : List ℕ
engine_phases = 1 ∷ 6 ∷ 10 ∷ 17 ∷ []

-- the open and the close phases
abbrev pub open_or_close_phases : List ℕ
open_or_close_phases = 2 ∷ 5 ∷ 7 ∷ 11 ∷ 15 ∷ 16 ∷ 18 ∷ 21 ∷ []

-- what is said of a phase, in lines of phases and a number: the number of the line that has it, 0 where none has
abbrev pub has : List ℕ → ℕ → Bool
has [] p = false
has (q ∷ qs) p = eqb p q || has qs p

abbrev pub said : List (List ℕ × ℕ) → ℕ → ℕ
said [] p = 0
said (line ∷ lines) p = cond (has line.0 p) line.1 (said lines p)

abbrev pub device_limit_in : Table → ℕ → ℕ
device_limit_in t =
    said ((sync_phases, t.engine_sync_dl)
    ∷ (zero_torque_phases, t.engine_zero_dl)
    ∷ (open_phases, t.clutch_open_dl)
    ∷ (close_phases, t.clutch_close_dl)
    ∷ (set_phases, t.gear_set_dl)
    ∷ (release_phases, t.gear_release_dl)
    ∷ [])

abbrev pub phase_limit_in : Table → ℕ → ℕ
phase_limit_in t =
    said ((sync_phases, t.sync_dl)
    ∷ (zero_torque_phases, t.zero_dl)
    ∷ (open_phases, t.open_clutch_dl)
    ∷ (set_phases, t.set_gear_dl)
    ∷ (release_phases, t.release_dl)
    ∷ (close_phases, t.close_clutch_dl)
    ∷ [])

-- the EX and the DE of an engine phase
abbrev pub ex_in : Table → ℕ → ℕ
ex_in t = said ((sync_phases, t.sync_ex) ∷ (zero_torque_phases, t.zero_ex) ∷ [])

abbrev pub de_in : Table → ℕ → ℕ
de_in t = said ((sync_phases, t.sync_de) ∷ (zero_torque_phases, t.zero_de) ∷ [])

-- the delays of an open or close phase, plain and error
abbrev pub plain_delay_in : Table → ℕ → ℕ
plain_delay_in t = said ((open_phases, t.clutch_open_de) ∷ (close_phases, t.clutch_close_de) ∷ [])

abbrev pub error_delay_in : Table → ℕ → ℕ
error_delay_in t = said ((open_phases, t.error_clutch_open_de) ∷ (close_phases, t.error_clutch_close_de) ∷ [])

-- next when taken
abbrev pub next_phase : ℕ → ℕ
next_phase =
    said ((1 ∷ [], 3)
    ∷ (2 ∷ [], 4)
    ∷ (4 ∷ [], 5)
    ∷ (6 ∷ [], 8)
    ∷ (7 ∷ [], 9)
    ∷ (8 ∷ [], 10)
    ∷ (9 ∷ [], 14)
    ∷ (10 ∷ [], 12)
    ∷ (11 ∷ [], 13)
    ∷ (13 ∷ [], 15)
    ∷ (14 ∷ [], 16)
    ∷ (17 ∷ [], 19)
    ∷ (18 ∷ [], 20)
    ∷ (20 ∷ [], 21)
    ∷ (3 ∷ 5 ∷ 12 ∷ 15 ∷ 16 ∷ 19 ∷ 21 ∷ [], 22)
    ∷ [])

-- after asking for the clutch
abbrev pub clutch_phase : ℕ → ℕ
clutch_phase = said ((1 ∷ [], 2) ∷ (6 ∷ [], 7) ∷ (10 ∷ [], 11) ∷ (17 ∷ [], 18) ∷ [])
