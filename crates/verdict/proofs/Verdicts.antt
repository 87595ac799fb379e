-- The verdict on a file is the one that the demands speak of: over what its records mean, accepted up to exactly the record that the
-- rules first forbid.
-- Assumes nothing.
use mathlib.Core.Path.{◌≡◌, sym, ap, subst, ◌∙◌}
use mathlib.Core.List.{List, ◌++◌}
use Prim.Native.Nat.{ℕ, ◌≤◌}
use Rattle.limits.specs.Tighter.{NowhereTighter}
use Rattle.promises.specs.Kinds.{Kind, last_kind, NotOlder}
use Rattle.promises.specs.Verdicts.{Exact}
use Rattle.promises.proofs.Boxes.{Stands}
use Rattle.promises.proofs.Promises.{accepted_up_to_the_first_forbidden_step, the_box_by_phase, accepted_by_a_looser_table_from_any_state, unfinished_shifts_are_no_older_than_their_sum}
use Rattle.shift.specs.States.{start}
use Rattle.shift.specs.Readings.{Reading}
use Rattle.shift.specs.Runs.{Outcome, run}
use Rattle.stepfile.specs.Files.{record_count, table_in, refusal_of, readings_of}
use Rattle.stepfile.proofs.RoundTrip.{as_many_records}
use Rattle.stepfile.proofs.WholeLaws.{good_file}
use Rattle.verdict.specs.declared.Verdict.{Verdict}
use Rattle.verdict.specs.Verdicts.{of_run, unread, verdict_of}
use Rattle.verdict.proofs.Judging.{unread_file, read_verdict}

-- what a verdict says of the records
abbrev pub outcome : Verdict → Outcome
outcome v = record { count = v.index; number = v.number; excess = v.excess; state = v.state }

module _ (f : List ℕ) where
  -- a file that is not read: the file's own refusal, index 0 and the start state
  pub unread_files : ¬ ((refusal_of f).number ≡ 0) → verdict_of f ≡ unread (refusal_of f)
  unread_files n = sym (unread_file f n)

  -- a file that is read: each record before the index is a step that the rules allow, the one at the index is the first that is none
  -- or that they forbid, by that number, and the state is the one before it
  pub read_files : (refusal_of f).number ≡ 0 → Exact (table_in f) start (readings_of f) (outcome (verdict_of f))
  read_files z =
      subst (λ (v : Verdict). Exact (table_in f) start (readings_of f) (outcome v)) (read_verdict f z)
      (accepted_up_to_the_first_forbidden_step (table_in f) start (readings_of f))

  -- an accepted file: the index is the record count of its header
  pub accepted_files : (refusal_of f).number ≡ 0 → (verdict_of f).number ≡ 0 → (verdict_of f).index ≡ record_count f
  accepted_files z a = (read_files z).accepted a ∙ as_many_records f z

  -- after a file, accepted or refused, the box stands by the phase
  pub the_box_after_a_file : (refusal_of f).number ≡ 0 → Stands (verdict_of f).state.phase (verdict_of f).state.gear_box
  the_box_after_a_file z =
      subst (λ (v : Verdict). Stands v.state.phase v.state.gear_box) (read_verdict f z) (the_box_by_phase (table_in f) (readings_of f))

  -- in an accepted file, after any of its records, an unfinished shift is no older than the sum of its kind, and that sum is at most
  -- the ChangeDL of the file's table
  pub shifts_in_accepted_files :
      (refusal_of f).number ≡ 0 → (verdict_of f).number ≡ 0 → (xs ys : List Reading) → xs ++ ys ≡ readings_of f → (k : Kind)
      → 1 ≤ (run (table_in f) start xs).state.phase
      → (run (table_in f) start xs).state.phase ≤ 21
      → NotOlder (table_in f) (last_kind k xs) (run (table_in f) start xs).state
  shifts_in_accepted_files z a xs ys e =
      unfinished_shifts_are_no_older_than_their_sum (table_in f) (good_file f z).admitted xs ys
      (ap (λ rs. (run (table_in f) start rs).number) e ∙ ap (λ (v : Verdict). v.number) (read_verdict f z) ∙ a)

-- a file with the records of an accepted one, and a table that is nowhere tighter than that one's, has its verdict
pub files_under_a_looser_table :
    (f g : List ℕ) → (refusal_of f).number ≡ 0 → (refusal_of g).number ≡ 0 → readings_of g ≡ readings_of f
    → NowhereTighter (table_in f) (table_in g) → (verdict_of f).number ≡ 0
    → verdict_of g ≡ verdict_of f
files_under_a_looser_table f g z y e l a =
    sym (read_verdict g y)
    ∙ ap (λ rs. of_run (run (table_in g) start rs)) e
    ∙ ap of_run
    (accepted_by_a_looser_table_from_any_state (table_in f) (table_in g) l start (readings_of f)
    (ap (λ (v : Verdict). v.number) (read_verdict f z) ∙ a))
    ∙ read_verdict f z
