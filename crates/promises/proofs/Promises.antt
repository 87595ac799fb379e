-- The customer's demands 2 and 3 over the rules, as theorems. Each holds for every table, state and list of readings that it names;
-- none assumes anything. The laws that they rest on stand in the files beside this one.
-- Assumes nothing.
use mathlib.Core.Path.{◌≡◌}
use mathlib.Core.Logic.{◌↔◌}
use mathlib.Core.List.{List, ◌++◌}
use Prim.Native.Nat.{◌≤◌}
use native.Mathlib.Omega.{arith}
use Rattle.limits.specs.declared.Table.{Table}
use Rattle.limits.specs.Rules.{broken_rule}
use Rattle.limits.specs.Tighter.{NowhereTighter}
use Rattle.shift.specs.declared.State.{State}
use Rattle.shift.specs.Readings.{Reading}
use Rattle.shift.specs.States.{start}
use Rattle.shift.specs.Answers.{guard, led}
use Rattle.shift.specs.Runs.{Outcome, run}
use Rattle.promises.specs.Allowed.{Permitted}
use Rattle.promises.specs.Effects.{Makes}
use Rattle.promises.specs.Kinds.{Kind, last_kind, NotOlder}
use Rattle.promises.specs.Verdicts.{Exact}
use Rattle.promises.proofs.Runs.{joined, pieces, beginning}
use Rattle.promises.proofs.Looser.{same_run}
use Rattle.promises.proofs.Ages.{in_time, covered, sums_admitted}
use Rattle.promises.proofs.Permitted.{permitted}
use Rattle.promises.proofs.EffectLaws.{effects}
use Rattle.promises.proofs.Exactly.{exact, only}
use Rattle.promises.proofs.Boxes.{Stands, standing}

-- ---- demand 2

-- the two definitions of "allowed" are one
pub allowed_in_the_document's_words : (t : Table) (s : State) (r : Reading) → (guard t s r ≡ 0) ↔ Permitted t s r
allowed_in_the_document's_words = permitted

-- and so are the two definitions of an effect: a permitted step leads to the state that the column "effect" describes, and to no other
pub effects_in_the_document's_words :
    (t : Table) (s : State) (r : Reading) → Permitted t s r → (s' : State) → (s' ≡ led s r) ↔ Makes s r s'
effects_in_the_document's_words = effects

-- a list is accepted up to exactly the step that the rules first forbid, from any state
pub accepted_up_to_the_first_forbidden_step : (t : Table) (s : State) (rs : List Reading) → Exact t s rs (run t s rs)
accepted_up_to_the_first_forbidden_step = exact

-- and no other outcome is so
pub no_other_outcome :
    (t : Table) (s : State) (rs : List Reading) (a b : Outcome) → Exact t s rs a → Exact t s rs b → a ≡ b
no_other_outcome = only

-- a list judged in two pieces, the second from the state where the first ended, has the whole's outcome
pub judged_in_two_pieces :
    (t : Table) (s : State) (xs ys : List Reading) → run t s (xs ++ ys) ≡ joined (run t s xs) (run t (run t s xs).state ys)
judged_in_two_pieces = pieces

-- a beginning of an accepted list is accepted
pub beginnings_are_accepted :
    (t : Table) (s : State) (xs ys : List Reading) → (run t s (xs ++ ys)).number ≡ 0 → (run t s xs).number ≡ 0
beginnings_are_accepted t s xs ys h = (beginning t s xs ys h).0

-- after every list of steps, accepted or refused, the box stands by phase; in a gear to gear shift it is neutral from the release
-- taken to the set taken
pub the_box_by_phase :
    (t : Table) (rs : List Reading) → Stands (run t start rs).state.phase (run t start rs).state.gear_box
the_box_by_phase t rs = standing t start rs (omega arith)

-- ---- demand 3

-- a table that is nowhere tighter accepts what the other accepts, with the same count and the same end
pub accepted_by_a_looser_table :
    (t u : Table) → broken_rule t ≡ 0 → broken_rule u ≡ 0 → NowhereTighter t u → (rs : List Reading)
    → (run t start rs).number ≡ 0
    → run u start rs ≡ run t start rs
accepted_by_a_looser_table t u a b l = same_run t u l start

-- the same from any state, and of tables that are not admitted too
pub accepted_by_a_looser_table_from_any_state :
    (t u : Table) → NowhereTighter t u → (s : State) (rs : List Reading)
    → (run t s rs).number ≡ 0
    → run u s rs ≡ run t s rs
accepted_by_a_looser_table_from_any_state = same_run

-- At each point of an accepted list, an unfinished shift is no older than the sum of its kind, and that sum is at most ChangeDL.
-- The kind is that of the last request before the point, which opened the shift; k is the answer for a list without a request,
-- where no shift is open.
pub unfinished_shifts_are_no_older_than_their_sum :
    (t : Table) → broken_rule t ≡ 0 → (xs ys : List Reading) → (run t start (xs ++ ys)).number ≡ 0
    → (k : Kind) → 1 ≤ (run t start xs).state.phase → (run t start xs).state.phase ≤ 21
    → NotOlder t (last_kind k xs) (run t start xs).state
unfinished_shifts_are_no_older_than_their_sum t admitted xs ys h k l m =
    let s = (run t start xs).state in
    let last = last_kind k xs in
    let j = in_time t k start xs (omega arith) (beginning t start xs ys h).0 l m in
    let sum = covered t admitted last s.phase j.first (omega arith) in
    let change = sums_admitted t admitted last in
    omega arith
