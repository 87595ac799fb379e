-- Document 01, "Numbers for what is refused" and "What the contracts have to determine": the files that hold K1, K3, K4, K5 and K6 byte
-- by byte, their verdicts and lines, and the five versions of a judge that are ruled out; document 02's case of a clutch that would not
-- close; and a list that is refused in a file without a table and accepted as the writer leaves it for the wish for none.
-- Assumes nothing.
use mathlib.Core.Path.{◌≡◌, refl, sym, ap, subst, ◌∙◌}
use mathlib.Core.List.{List, [], ◌∷◌, ◌++◌, map}
use Prim.Native.Nat.{ℕ}
use native.Mathlib.Omega.{arith}
use lib.ListN.{drop}
use Rattle.limits.specs.Limits.{new_default}
use Rattle.line.specs.Ascii.{ascii}
use Rattle.line.specs.Decimals.{decimal_of}
use Rattle.line.specs.Lines.{line_of}
use Rattle.shift.specs.declared.State.{State}
use Rattle.shift.specs.States.{start}
use Rattle.shift.specs.Runs.{Outcome}
use Rattle.stepfile.specs.Files.{table_in, refusal_of, readings_of}
use Rattle.stepfile.specs.Writing.{file_of}
use Rattle.promises.specs.Verdicts.{Exact}
use Rattle.promises.proofs.Promises.{no_other_outcome}
use Rattle.verdict.specs.declared.Verdict.{Verdict}
use Rattle.verdict.specs.Verdicts.{verdict_of}
use Rattle.verdict.specs.Said.{line_for}
use Rattle.verdict.proofs.Verdicts.{outcome, read_files}
use Rattle.verdict.proofs.judge.Reads as judge_reads

-- ---- the files

-- without a table: table offset 12, no entries, record offset 12, so many records
abbrev headed : ℕ → List ℕ → List ℕ
headed count records = 12 ∷ 0 ∷ 0 ∷ 0 ∷ 12 ∷ 0 ∷ 0 ∷ 0 ∷ count ∷ 0 ∷ 0 ∷ 0 ∷ records

-- 1 t5 4 t100 5 t5, 8 4 t300 5 8 11
abbrev pub k1 : List ℕ
k1 =
    headed 12 (1 ∷ 0 ∷ 0 ∷ 0 ∷ 12 ∷ 0 ∷ 5 ∷ 0 ∷ 4 ∷ 0 ∷ 0 ∷ 0 ∷ 12 ∷ 0 ∷ 100 ∷ 0 ∷ 5 ∷ 0 ∷ 0 ∷ 0 ∷ 12 ∷ 0 ∷ 5 ∷ 0
    ∷ 8 ∷ 0 ∷ 0 ∷ 0 ∷ 4 ∷ 0 ∷ 0 ∷ 0 ∷ 12 ∷ 0 ∷ 44 ∷ 1 ∷ 5 ∷ 0 ∷ 0 ∷ 0 ∷ 8 ∷ 0 ∷ 0 ∷ 0 ∷ 11 ∷ 0 ∷ 0 ∷ 0 ∷ [])

-- 1 t6
abbrev pub k3 : List ℕ
k3 = headed 2 (1 ∷ 0 ∷ 0 ∷ 0 ∷ 12 ∷ 0 ∷ 6 ∷ 0 ∷ [])

-- 1 t5 4 t101, and its first record alone
abbrev pub k4 : List ℕ
k4 = headed 4 (1 ∷ 0 ∷ 0 ∷ 0 ∷ 12 ∷ 0 ∷ 5 ∷ 0 ∷ 4 ∷ 0 ∷ 0 ∷ 0 ∷ 12 ∷ 0 ∷ 101 ∷ 0 ∷ [])

abbrev pub first_of_k4 : List ℕ
first_of_k4 = headed 1 (1 ∷ 0 ∷ 0 ∷ 0 ∷ [])

-- 1 4 7 t150 9
abbrev pub k5 : List ℕ
k5 = headed 5 (1 ∷ 0 ∷ 0 ∷ 0 ∷ 4 ∷ 0 ∷ 0 ∷ 0 ∷ 7 ∷ 0 ∷ 0 ∷ 0 ∷ 12 ∷ 0 ∷ 150 ∷ 0 ∷ 9 ∷ 0 ∷ 0 ∷ 0 ∷ [])

-- 1 4 7 t151 9
abbrev pub k6 : List ℕ
k6 = headed 5 (1 ∷ 0 ∷ 0 ∷ 0 ∷ 4 ∷ 0 ∷ 0 ∷ 0 ∷ 7 ∷ 0 ∷ 0 ∷ 0 ∷ 12 ∷ 0 ∷ 151 ∷ 0 ∷ 9 ∷ 0 ∷ 0 ∷ 0 ∷ [])

-- 1 4 7 t151 9, 4 5 8 4 5 8 4 6 10: the set order is taken in phase 4, and the clutch does not close in phase 5
abbrev pub would_not_close : List ℕ
would_not_close =
    headed 14 (1 ∷ 0 ∷ 0 ∷ 0 ∷ 4 ∷ 0 ∷ 0 ∷ 0 ∷ 7 ∷ 0 ∷ 0 ∷ 0 ∷ 12 ∷ 0 ∷ 151 ∷ 0 ∷ 9 ∷ 0 ∷ 0 ∷ 0
    ∷ 4 ∷ 0 ∷ 0 ∷ 0 ∷ 5 ∷ 0 ∷ 0 ∷ 0 ∷ 8 ∷ 0 ∷ 0 ∷ 0 ∷ 4 ∷ 0 ∷ 0 ∷ 0 ∷ 5 ∷ 0 ∷ 0 ∷ 0
    ∷ 8 ∷ 0 ∷ 0 ∷ 0 ∷ 4 ∷ 0 ∷ 0 ∷ 0 ∷ 6 ∷ 0 ∷ 0 ∷ 0 ∷ 10 ∷ 0 ∷ 0 ∷ 0 ∷ [])

-- the same, then t9 13 3: a reset, and a request to neutral
abbrev pub then_reset : List ℕ
then_reset = headed 17 (drop 12 would_not_close ++ (12 ∷ 0 ∷ 9 ∷ 0 ∷ 13 ∷ 0 ∷ 0 ∷ 0 ∷ 3 ∷ 0 ∷ 0 ∷ 0 ∷ []))

-- 1 t10 4 t100 5 t10, 8 4 t300 5 t10 8 11: 10 ms for each message, in codes and amounts and in a file without a table
abbrev pub codes : List ℕ
codes = 1 ∷ 12 ∷ 4 ∷ 12 ∷ 5 ∷ 12 ∷ 8 ∷ 4 ∷ 12 ∷ 5 ∷ 12 ∷ 8 ∷ 11 ∷ []

abbrev pub amounts : List ℕ
amounts = 0 ∷ 10 ∷ 0 ∷ 100 ∷ 0 ∷ 10 ∷ 0 ∷ 0 ∷ 300 ∷ 0 ∷ 10 ∷ 0 ∷ 0 ∷ []

abbrev records : List ℕ
records =
    1 ∷ 0 ∷ 0 ∷ 0 ∷ 12 ∷ 0 ∷ 10 ∷ 0 ∷ 4 ∷ 0 ∷ 0 ∷ 0 ∷ 12 ∷ 0 ∷ 100 ∷ 0 ∷ 5 ∷ 0 ∷ 0 ∷ 0 ∷ 12 ∷ 0 ∷ 10 ∷ 0 ∷ 8 ∷ 0 ∷ 0 ∷ 0
    ∷ 4 ∷ 0 ∷ 0 ∷ 0 ∷ 12 ∷ 0 ∷ 44 ∷ 1 ∷ 5 ∷ 0 ∷ 0 ∷ 0 ∷ 12 ∷ 0 ∷ 10 ∷ 0 ∷ 8 ∷ 0 ∷ 0 ∷ 0 ∷ 11 ∷ 0 ∷ 0 ∷ 0 ∷ []

abbrev pub without_a_table : List ℕ
without_a_table = headed 13 records

-- the file that the writer leaves for the wish for none: table offset 12, eighteen entries, record offset 48, 13 records, the new default
pub written_for_none :
    file_of new_default codes amounts
    ≡ 12 ∷ 0 ∷ 18 ∷ 0 ∷ 48 ∷ 0 ∷ 0 ∷ 0 ∷ 13 ∷ 0 ∷ 0 ∷ 0
    ∷ 10 ∷ 0 ∷ 100 ∷ 0 ∷ 200 ∷ 0 ∷ 150 ∷ 0 ∷ 150 ∷ 0 ∷ 44 ∷ 1 ∷ 200 ∷ 0 ∷ 150 ∷ 0 ∷ 250 ∷ 0
    ∷ 155 ∷ 0 ∷ 255 ∷ 0 ∷ 151 ∷ 0 ∷ 251 ∷ 0 ∷ 200 ∷ 0 ∷ 94 ∷ 1 ∷ 250 ∷ 0 ∷ 200 ∷ 0 ∷ 220 ∷ 5
    ∷ records
written_for_none = refl

-- ---- their lines
pub k1_prints : line_for k1 ≡ ascii "accepted 12 0 410 0 1 0\n"
unfolding line_of decimal_of table_in
k1_prints = refl

pub k5_prints : line_for k5 ≡ ascii "refused 4 9 150 1 0 1\n"
unfolding line_of decimal_of table_in
k5_prints = refl

-- in gear, in 23 and after the reset
pub would_not_close_prints : line_for would_not_close ≡ ascii "accepted 14 0 151 23 1 0\n"
unfolding line_of decimal_of table_in
would_not_close_prints = refl

pub then_reset_prints : line_for then_reset ≡ ascii "accepted 17 0 160 17 1 0\n"
unfolding line_of decimal_of table_in
then_reset_prints = refl

-- the same list, in a file without a table and as it is written for the wish for none
pub without_a_table_prints : line_for without_a_table ≡ ascii "refused 1 12 0 1 0 5\n"
unfolding line_of decimal_of table_in
without_a_table_prints = refl

pub for_none_prints : line_for (file_of new_default codes amounts) ≡ ascii "accepted 13 0 430 0 1 0\n"
unfolding line_of decimal_of table_in
for_none_prints = refl

-- ---- their verdicts: the number, the index, the excess, and the clock and the phase of the state
abbrev pub told : Verdict → List ℕ
told v = v.number ∷ v.index ∷ v.excess ∷ v.state.clock ∷ v.state.phase ∷ []

pub known_files :
    map (λ f. told (verdict_of f)) (k1 ∷ k3 ∷ k4 ∷ first_of_k4 ∷ k5 ∷ k6 ∷ [])
    ≡ (0 ∷ 12 ∷ 0 ∷ 410 ∷ 0 ∷ [])
    ∷ (12 ∷ 1 ∷ 1 ∷ 0 ∷ 1 ∷ [])
    ∷ (12 ∷ 3 ∷ 1 ∷ 5 ∷ 1 ∷ [])
    ∷ (0 ∷ 1 ∷ 0 ∷ 0 ∷ 1 ∷ [])
    ∷ (9 ∷ 4 ∷ 1 ∷ 150 ∷ 1 ∷ [])
    ∷ (0 ∷ 5 ∷ 0 ∷ 151 ∷ 2 ∷ [])
    ∷ []
unfolding table_in
known_files = refl

-- ---- the five versions: for a file f, whatever the contract of `judge` allows as its verdict is so
abbrev pub Answered : List ℕ → (Verdict → Type 0) → Type 0
Answered f P = (κs : _) (a : _) (v : Verdict) (at : _) → judge_reads.Post κs a v at → a.0.now ≡ f → P v

pub answered : (f : List ℕ) (P : Verdict → Type 0) → P (verdict_of f) → Answered f P
answered f P p κs a v at e g = subst P (sym (e ∙ ap verdict_of g)) p

-- a judge that refuses every file: K1 is accepted
pub not_every_file_is_refused : Answered k1 (λ v. v.number ≡ 0)
unfolding table_in
not_every_file_is_refused = answered k1 (λ v. v.number ≡ 0) refl

-- one with a constant verdict: that on K1 is not that on K3
pub no_constant_verdict : Answered k1 (λ v. Answered k3 (λ w. ¬ (v ≡ w)))
unfolding table_in
no_constant_verdict =
    answered k1 (λ v. Answered k3 (λ w. ¬ (v ≡ w)))
    (answered k3 (λ w. ¬ (verdict_of k1 ≡ w)) (λ e. let same : 0 ≡ 12 = ap (λ (v : Verdict). v.number) e in omega arith))

-- a step that hands its state back untouched: K6 is accepted and does not end where it starts
pub no_step_hands_its_state_back : Answered k6 (λ v. (v.number ≡ 0) × ¬ (v.state ≡ start))
unfolding table_in
no_step_hands_its_state_back =
    answered k6 (λ v. (v.number ≡ 0) × ¬ (v.state ≡ start))
    (refl, λ e. let same : 2 ≡ 0 = ap (λ (s : State). s.phase) e in omega arith)

-- one that works the first record and nods the others through: K4's first record is accepted and its fourth is not
pub no_record_is_nodded_through :
    Answered first_of_k4 (λ v. v.number ≡ 0) × Answered k4 (λ v. (v.number ≡ 12) × (v.index ≡ 3))
unfolding table_in
no_record_is_nodded_through =
    (answered first_of_k4 (λ v. v.number ≡ 0) refl, answered k4 (λ v. (v.number ≡ 12) × (v.index ≡ 3)) (refl, refl))

-- a records-accepted figure that is invented: of every file that is read it is the index that the rules first forbid, or the length
pub no_figure_is_invented :
    (f : List ℕ) → (refusal_of f).number ≡ 0 → (o : Outcome) → Exact (table_in f) start (readings_of f) o
    → Answered f (λ v. v.index ≡ o.count)
no_figure_is_invented f z o x =
    answered f (λ v. v.index ≡ o.count)
    (ap (λ (q : Outcome). q.count) (no_other_outcome (table_in f) start (readings_of f) (outcome (verdict_of f)) o (read_files f z) x))
