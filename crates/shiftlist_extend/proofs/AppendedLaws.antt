-- Laws on a file to which records were appended: its records, its verdict and its shifts, by those of the file before.
-- Assumes nothing.
use mathlib.Core.Path.{◌≡◌, refl, sym, ap, ◌∙◌}
use mathlib.Core.List.{List, [], ◌∷◌, ◌++◌}
use Prim.Native.Nat.{ℕ, zero, suc, ◌+◌, ◌*◌, ◌/◌, ◌≤◌}
use native.Mathlib.Omega.{arith}
use lib.ListN.{length, take, length-append, length-drop}
use lib.Seq.{take-length}
use Rattle.limits.specs.declared.Table.{Table}
use Rattle.limits.specs.Rules.{broken_rule}
use Rattle.promises.specs.Verdicts.{leads}
use Rattle.promises.proofs.Runs.{joined, pieces}
use Rattle.shift.specs.declared.State.{State}
use Rattle.shift.specs.States.{start}
use Rattle.shift.specs.Runs.{Outcome, run}
use Rattle.stepfile.specs.Records.{record_of, records_in}
use Rattle.stepfile.specs.Files.{record_count, record_offset, table_in, refusal_of, record_bytes, readings_of}
use Rattle.stepfile.specs.Writing.{most_for}
use Rattle.stepfile.proofs.WholeLaws.{good_file, no_more_than_written}
use Rattle.stepfile.proofs.TableLaws.{records_from}
use Rattle.stepfile.proofs.RoundTrip.{as_many_records}
use Rattle.trace.specs.Traces.{trace_of}
use Rattle.trace.proofs.TraceLaws.{Sound, accepted_sound}
use Rattle.verdict.specs.declared.Verdict.{Verdict}
use Rattle.verdict.specs.Verdicts.{of_run, verdict_of}
use Rattle.verdict.proofs.Judging.{read_verdict}
use Rattle.verdict.proofs.Verdicts.{read_files, accepted_files}
use Rattle.shiftlist.proofs.BuildLaws.{read, all_accepted}

-- The file f is accepted. The file g is good, its table is that of f, and its records are those of f and then these bytes.
pub record Appended (f g bytes : List ℕ) : Type 0 where
  pub accepted : (verdict_of f).number ≡ 0
  pub good : (refusal_of g).number ≡ 0
  pub table : table_in g ≡ table_in f
  pub records : record_bytes g ≡ record_bytes f ++ bytes

-- ---- records in two pieces
records-append : (n : ℕ) (l m : List ℕ) → length l ≡ 4 * n → records_in (l ++ m) ≡ records_in l ++ records_in m
records-append n [] m e = refl
records-append n (a ∷ []) m e = absurd (omega arith)
records-append n (a ∷ b ∷ []) m e = absurd (omega arith)
records-append n (a ∷ b ∷ c ∷ []) m e = absurd (omega arith)
records-append zero (a ∷ b ∷ c ∷ d ∷ l) m e = absurd (omega arith)
records-append (suc n) (a ∷ b ∷ c ∷ d ∷ l) m e = ap (λ rs. record_of a b c d ∷ rs) (records-append n l m (omega arith))

-- of a good file
module _ (f : List ℕ) (z : (refusal_of f).number ≡ 0) where
  bytes_long : length (record_bytes f) ≡ 4 * record_count f
  bytes_long =
      let g = good_file f z in
      let there = ap length (records_from f z (omega (arith, g.whole))) ∙ length-drop (record_offset f) f in
      omega (arith, there, g.whole, g.follow)

module _ (f g bytes : List ℕ) (a : Appended f g bytes) where
  good_f : (refusal_of f).number ≡ 0
  good_f = read f a.accepted

  abbrev pub state : State
  state = (verdict_of f).state

  abbrev pub count : ℕ
  count = (verdict_of f).index

  pub count_is : count ≡ length (readings_of f)
  count_is = accepted_files f good_f a.accepted ∙ sym (as_many_records f good_f)

  pub state_is : state ≡ leads start (readings_of f)
  state_is =
      let x = read_files f good_f in
      x.state ∙ ap (λ k. leads start (take k (readings_of f))) (x.accepted a.accepted) ∙ ap (leads start) (take-length (readings_of f))

  -- the records of g, and how many there are
  pub readings_are : readings_of g ≡ readings_of f ++ records_in bytes
  readings_are = ap records_in a.records ∙ records-append (record_count f) (record_bytes f) bytes (bytes_long f good_f)

  pub few_records : count + length bytes / 4 ≤ most_for (table_in f)
  few_records =
      let all = sym (bytes_long g a.good) ∙ ap length a.records ∙ length-append (record_bytes f) bytes in
      let most = ap most_for a.table in
      omega (arith, all, bytes_long f good_f, no_more_than_written g a.good, most, accepted_files f good_f a.accepted)

  pub admitted : broken_rule (table_in f) ≡ 0
  admitted = (good_file f good_f).admitted

  -- the run of g: that of f, and then that of the new records from where it ended
  abbrev pub further : Outcome
  further = run (table_in f) state (records_in bytes)

  goes_on : (o : Outcome) → o.number ≡ 0 → o.count ≡ count → o.state ≡ state → joined o (run (table_in f) o.state (records_in bytes)) ≡ record { count = count + further.count; number = further.number; excess = further.excess; state = further.state }
  goes_on o z c s = rw (z, c, s)

  run_is : run (table_in f) start (readings_of f ++ records_in bytes) ≡ record { count = count + further.count; number = further.number; excess = further.excess; state = further.state }
  run_is =
      let o = run (table_in f) start (readings_of f) in
      let v = read_verdict f good_f in
      pieces (table_in f) start (readings_of f) (records_in bytes)
      ∙ goes_on o (all_accepted f a.accepted) (ap (λ (q : Verdict). q.index) v) (ap (λ (q : Verdict). q.state) v)

  pub verdict_is : verdict_of g ≡ record { number = further.number; rule = 0; index = count + further.count; excess = further.excess; state = further.state }
  verdict_is =
      sym (read_verdict g a.good)
      ∙ ap (λ (t : Table). of_run (run t start (readings_of g))) a.table
      ∙ ap (λ rs. of_run (run (table_in f) start rs)) readings_are
      ∙ ap of_run run_is

  pub all_sound : further.number ≡ 0 → Sound (trace_of start) (readings_of f ++ records_in bytes)
  all_sound z = accepted_sound (table_in f) start (readings_of f ++ records_in bytes) (omega arith) (ap (λ (o : Outcome). o.number) run_is ∙ z)
