-- Document 01, "Small table of known runs": K1 to K13, and the statement that the definitions give these answers, the state in all of
-- its fields; the case for which document 02 moved the box and added the reset; excesses that can be followed by hand; runs on both sides
-- of each delay of the house; and a list that the new default accepts and the old one refuses.
-- Assumes nothing.
use mathlib.Core.Path.{◌≡◌, refl}
use mathlib.Core.List.{List, [], ◌∷◌, ◌++◌, map}
use Prim.Native.Nat.{ℕ}
use lib.ListN.{set}
use Rattle.limits.specs.declared.Table.{Table}
use Rattle.limits.specs.Limits.{limits, entries, table_of, old_default, new_default, house}
use Rattle.limits.specs.Rules.{broken_rule}
use Rattle.shift.specs.declared.State.{State}
use Rattle.shift.specs.Readings.{Reading}
use Rattle.shift.specs.declared.Answer.{Answer}
use Rattle.shift.specs.States.{start, neutral, in_gear, none, sent, working, good, failed, waiting}
use Rattle.shift.specs.Answers.{reading, step_on}
use Rattle.shift.specs.Runs.{Outcome, run}

-- a step by its code, and tN
abbrev step : ℕ → Reading
step code = reading code 0 0

abbrev t : ℕ → Reading
t n = reading 12 0 n

-- clock, box, phase, phase time, stage, stage time, request time, failed phase
abbrev state : ℕ → ℕ → ℕ → ℕ → ℕ → ℕ → ℕ → ℕ → State
state clock box phase phase_time stage stage_time request_time failed_phase = record {
  clock = clock;
  gear_box = box;
  phase = phase;
  phase_time = phase_time;
  stage = stage;
  stage_time = stage_time;
  request_time = request_time;
  failed_phase = failed_phase;
}

-- a list of steps, and what it ends in: how many are accepted, the number, the excess, the state
record Known : Type 0 where
  steps : List Reading
  ends : Outcome

abbrev over : List Reading → ℕ → ℕ → ℕ → State → Known
over rs count number excess s =
    record { steps = rs; ends = record { count = count; number = number; excess = excess; state = s } }

abbrev known : List Reading → ℕ → ℕ → State → Known
known rs count number s = over rs count number 0 s

abbrev k1 : List Reading
k1 = step 1 ∷ t 5 ∷ step 4 ∷ t 100 ∷ step 5 ∷ t 5 ∷ step 8 ∷ step 4 ∷ t 300 ∷ step 5 ∷ step 8 ∷ step 11 ∷ []

abbrev runs : List Known
runs =
    -- K1: accepted, clock 410, at rest, in gear
    known k1 12 0 (state 410 in_gear 0 410 none 410 0 0)
    -- K2: no steps: accepted, start state
    ∷ known [] 0 0 (state 0 neutral 0 0 none 0 0 0)
    -- K3, and with t5
    ∷ over (step 1 ∷ t 6 ∷ []) 1 12 1 (state 0 neutral 1 0 sent 0 0 0)
    ∷ known (step 1 ∷ t 5 ∷ []) 2 0 (state 5 neutral 1 0 sent 0 0 0)
    -- K4
    ∷ over (step 1 ∷ t 5 ∷ step 4 ∷ t 101 ∷ []) 3 12 1 (state 5 neutral 1 0 working 5 0 0)
    -- K5
    ∷ over (step 1 ∷ step 4 ∷ step 7 ∷ t 150 ∷ step 9 ∷ []) 4 9 1 (state 150 neutral 1 0 waiting 0 0 0)
    -- K6
    ∷ known (step 1 ∷ step 4 ∷ step 7 ∷ t 151 ∷ step 9 ∷ []) 5 0 (state 151 neutral 2 151 sent 151 0 0)
    -- K7, and with t155
    ∷ over (step 1 ∷ step 4 ∷ step 7 ∷ t 156 ∷ []) 3 11 1 (state 0 neutral 1 0 waiting 0 0 0)
    ∷ known (step 1 ∷ step 4 ∷ step 7 ∷ t 155 ∷ []) 4 0 (state 155 neutral 1 0 waiting 0 0 0)
    -- K8
    ∷ known (step 2 ∷ []) 0 8 (state 0 neutral 0 0 none 0 0 0)
    -- K9
    ∷ known (step 1 ∷ step 1 ∷ []) 1 7 (state 0 neutral 1 0 sent 0 0 0)
    -- K10
    ∷ known (step 1 ∷ step 4 ∷ step 6 ∷ []) 2 7 (state 0 neutral 1 0 working 0 0 0)
    -- K11: phase 23, failed phase 19, box in gear
    ∷ known
    (k1 ++ (step 3 ∷ step 4 ∷ step 5 ∷ step 8 ∷ step 4 ∷ step 6 ∷ step 10 ∷ step 11 ∷ []))
    19
    7
    (state 410 in_gear 23 410 none 410 410 19)
    ∷ []

-- the set order was taken in phase 4 and the clutch would not close in phase 5: in gear, in 23 and after the reset, and a request to
-- neutral is then accepted; one from neutral is not
abbrev would_not_close : List Reading
would_not_close =
    step 1
    ∷ step 4
    ∷ step 7
    ∷ t 151
    ∷ step 9
    ∷ step 4
    ∷ step 5
    ∷ step 8
    ∷ step 4
    ∷ step 5
    ∷ step 8
    ∷ step 4
    ∷ step 6
    ∷ step 10
    ∷ []

abbrev cases : List Known
cases =
    known would_not_close 14 0 (state 151 in_gear 23 151 none 151 0 5)
    ∷ known (would_not_close ++ (t 9 ∷ step 13 ∷ [])) 16 0 (state 160 in_gear 0 160 none 160 0 0)
    ∷ known (would_not_close ++ (t 9 ∷ step 13 ∷ step 3 ∷ [])) 17 0 (state 160 in_gear 17 160 sent 160 160 0)
    ∷ known (would_not_close ++ (t 9 ∷ step 13 ∷ step 1 ∷ [])) 16 8 (state 160 in_gear 0 160 none 160 0 0)
    ∷ []

-- the old default with another ChangeDL
abbrev changing : ℕ → Table
changing n = table_of (set (entries old_default) 17 n)

-- phase 1, phase time 0, stage good
abbrev good_at : ℕ → State
good_at clock = state clock neutral 1 0 good 0 0 0

abbrev answered : ℕ → ℕ → State → Answer
answered number excess s = record { number = number; rule = 0; excess = excess; state = s }

-- K1 to K11 end so; K12: rule 14 is broken at 1,404 and none at 1,405; K13: a take is accepted at 150 and leads to phase 3, and is
-- refused with 10 at 151, which is 1 over
pub record KnownRuns : Type 0 where
  pub k1_k11 : map (λ k. run old_default start k.steps) runs ≡ map (λ k. k.ends) runs
  pub k12 : map (λ n. broken_rule (changing n)) (1404 ∷ 1405 ∷ []) ≡ 14 ∷ 0 ∷ []
  pub k13 :
      map (λ n. step_on old_default (good_at n) 8 0) (150 ∷ 151 ∷ [])
      ≡ answered 0 0 (state 150 neutral 3 150 sent 150 0 0) ∷ answered 10 1 (good_at 151) ∷ []

pub known_runs : KnownRuns
known_runs = record { k1_k11 = refl; k12 = refl; k13 = refl }

pub the_customer's_case : map (λ k. run old_default start k.steps) cases ≡ map (λ k. k.ends) cases
the_customer's_case = refl

-- ---- how far over: a tick past both limits is measured against the channel's, 155 past it and 5 past the phase's; one that the clock
-- has no room for against the largest clock; an ask clutch with the phase's time at the largest clock passes 32 bits
abbrev waiting_from : ℕ → State
waiting_from time = state 0 neutral 1 time waiting 0 0 0

pub record HowFarOver : Type 0 where
  pub past_both : run old_default start (step 1 ∷ t 160 ∷ []) ≡ (over (step 1 ∷ t 160 ∷ []) 1 12 155 (state 0 neutral 1 0 sent 0 0 0)).ends
  pub past_the_clock : step_on old_default (state 4294967290 neutral 0 0 none 0 0 0) 12 12 ≡ answered 13 7 (state 4294967290 neutral 0 0 none 0 0 0)
  pub past_32_bits : step_on old_default (waiting_from 4294967295) 9 0 ≡ answered 9 4294967446 (waiting_from 4294967295)

pub how_far_over : HowFarOver
how_far_over = record { past_both = refl; past_the_clock = refl; past_32_bits = refl }

-- ---- the house values, 20, 60, 20, 60: a device good and a device failed one below their delay and at it, in an open and in a close
-- phase. The clutch was asked for at 151 and delivered 3 later, so that the delay does not run from the phase's time; in the wrong stage
-- it is 7, though it is too early too.
abbrev opening : List Reading
opening = step 1 ∷ step 4 ∷ step 7 ∷ t 151 ∷ step 9 ∷ t 3 ∷ step 4 ∷ []

abbrev closing : List Reading
closing = opening ++ (t 20 ∷ step 5 ∷ step 8 ∷ step 4 ∷ step 5 ∷ step 8 ∷ t 3 ∷ step 4 ∷ [])

abbrev delayed : List Known
delayed =
    -- open, plain
    over (opening ++ (t 19 ∷ step 5 ∷ [])) 8 9 1 (state 173 neutral 2 151 working 154 0 0)
    ∷ known (opening ++ (t 20 ∷ step 5 ∷ [])) 9 0 (state 174 neutral 2 151 good 174 0 0)
    -- open, error
    ∷ over (opening ++ (t 59 ∷ step 6 ∷ [])) 8 9 1 (state 213 neutral 2 151 working 154 0 0)
    ∷ known (opening ++ (t 60 ∷ step 6 ∷ [])) 9 0 (state 214 neutral 2 151 failed 214 0 0)
    -- close, plain
    ∷ over (closing ++ (t 19 ∷ step 5 ∷ [])) 16 9 1 (state 196 in_gear 5 174 working 177 0 0)
    ∷ known (closing ++ (t 20 ∷ step 5 ∷ [])) 17 0 (state 197 in_gear 5 174 good 197 0 0)
    -- close, error
    ∷ over (closing ++ (t 59 ∷ step 6 ∷ [])) 16 9 1 (state 236 in_gear 5 174 working 177 0 0)
    ∷ known (closing ++ (t 60 ∷ step 6 ∷ [])) 17 0 (state 237 in_gear 5 174 failed 237 0 0)
    -- not before it is delivered
    ∷ known (step 1 ∷ step 4 ∷ step 7 ∷ t 151 ∷ step 9 ∷ step 5 ∷ []) 5 7 (state 151 neutral 2 151 sent 151 0 0)
    ∷ []

-- the house's table with other delays: plain and error, opening and closing
abbrev delaying : ℕ → ℕ → ℕ → ℕ → Table
delaying a b c d = table_of (limits house ++ (a ∷ b ∷ c ∷ d ∷ []))

-- They end so. Rule 16 is broken by delays of one order alone, by a plain one of 0, by an error delay that is its plain one, and by one
-- past the device's limit of 150; not by the house values, by 1 and 2, by an error delay of 150, and by four zeros
pub record KnownDelays : Type 0 where
  pub runs : map (λ k. run house start k.steps) delayed ≡ map (λ k. k.ends) delayed
  pub broken :
      map broken_rule (delaying 20 60 0 0 ∷ delaying 0 0 20 60 ∷ delaying 0 60 20 60 ∷ delaying 20 20 20 60 ∷ delaying 20 60 20 20 ∷ delaying 20 151 20 60 ∷ delaying 20 60 20 151 ∷ [])
      ≡ 16 ∷ 16 ∷ 16 ∷ 16 ∷ 16 ∷ 16 ∷ 16 ∷ []
  pub kept : map broken_rule (house ∷ delaying 1 2 1 2 ∷ delaying 20 150 20 150 ∷ delaying 0 0 0 0 ∷ []) ≡ 0 ∷ 0 ∷ 0 ∷ 0 ∷ []

pub known_delays : KnownDelays
known_delays = record { runs = refl; broken = refl; kept = refl }

-- ---- the two defaults: K1 with 5, 10 and 11 ms for each of three messages. Where it is accepted the shift is done, at rest and in gear;
-- else the first tick is refused with 12, by what it is past 5 under the old default and past 10 under the new one
abbrev messages : ℕ → List Reading
messages n =
    step 1 ∷ t n ∷ step 4 ∷ t 100 ∷ step 5 ∷ t n ∷ step 8 ∷ step 4 ∷ t 300 ∷ step 5 ∷ t n ∷ step 8 ∷ step 11 ∷ []

abbrev shifted : ℕ → Outcome
shifted clock = record { count = 13; number = 0; excess = 0; state = state clock in_gear 0 clock none clock 0 0 }

abbrev too_late : ℕ → Outcome
too_late excess = record { count = 1; number = 12; excess = excess; state = state 0 neutral 1 0 sent 0 0 0 }

pub record KnownDefaults : Type 0 where
  pub old : map (λ n. run old_default start (messages n)) (5 ∷ 10 ∷ 11 ∷ []) ≡ shifted 415 ∷ too_late 5 ∷ too_late 6 ∷ []
  pub new : map (λ n. run new_default start (messages n)) (5 ∷ 10 ∷ 11 ∷ []) ≡ shifted 415 ∷ shifted 430 ∷ too_late 1 ∷ []

pub known_defaults : KnownDefaults
known_defaults = record { old = refl; new = refl }
