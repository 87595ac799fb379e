-- The fields of an entry of an accepted file fit their widths, and so does the count of its shifts.
-- Assumes nothing.
use Rattle.std.specs.Prelude.{Ok, Err}
use Rattle.std.proofs.Common.{◌≡◌, ℕ, zero, suc, ◌<◌, ◌≤◌, List, [], ◌∷◌, length, get_or, sym, subst, ⊎_elim, arith}
use Rattle.promises.specs.Verdicts.{at}
use Rattle.shift.specs.declared.State.{State}
use Rattle.shift.specs.Readings.{Reading}
use Rattle.shift.specs.declared.Misread.TheVariants.{WrongCode, WrongAmount}
use Rattle.shift.specs.States.{start}
use Rattle.shift.specs.Answers.{led}
use Rattle.stepfile.specs.Files.{readings_of}
use Rattle.stepfile.proofs.RoundTrip.{as_many_records}
use Rattle.stepfile.proofs.WholeLaws.{good_file}
use Rattle.trace.specs.Traces.{Trace, trace_of}
use Rattle.trace.proofs.TraceLaws.{Sound, projects_step}
use Rattle.verdict.specs.Verdicts.{verdict_of}
use Rattle.shiftlist.specs.declared.Shift.{Shift}
use Rattle.shiftlist.specs.Shifts.{kind_of, begun, whole, entry_for, shifts_from}
use Rattle.shiftlist.specs.Lists.{shifts_of, no_shift}
use Rattle.shiftlist.specs.Entries.{before, Entry}
use Rattle.shiftlist.proofs.BuildLaws.{read, file_sound}
use Rattle.shiftlist.proofs.FetchLaws.{Fits}
use Rattle.shiftlist.proofs.RequestLaws.{codes_of_requests}
use Rattle.shiftlist.proofs.EntryLaws.{the_entries}

-- ---- the clock stays within 32 bits
within_32_bits :
    (s : State) (rs : List Reading) → Sound (trace_of s) rs → s.clock ≤ 4294967295 → (j : ℕ)
    → (before s rs j).clock ≤ 4294967295
within_32_bits s rs h c zero = c
within_32_bits s [] h c (suc j) = c
within_32_bits s (Ok x ∷ rs) h c (suc j) =
    let same = sym (projects_step s x) in
    within_32_bits (led s (Ok x)) rs (subst (λ t. Sound t rs) same h.2) (subst (λ (t : Trace). t.clock ≤ 4294967295) same h.1) j
within_32_bits s (Err WrongCode ∷ rs) h c (suc j) = absurd h
within_32_bits s (Err WrongAmount ∷ rs) h c (suc j) = absurd h

-- ---- an entry's fields
module _ (s : State) (rs : List Reading) (h : Sound (trace_of s) rs) (c : s.clock ≤ 4294967295) (n : length rs ≤ 65535) where
  pub fits : (e : Shift) → Entry s rs e → Fits e
  fits e x =
      let first = within_32_bits s rs h c e.first in
      let last = within_32_bits s rs h c (suc e.last) in
      record {
        first = omega (arith, x.order, x.within);
        last = omega (arith, x.within);
        kind = omega (arith, codes_of_requests (at rs e.first) e.kind x.request);
        route = ⊎_elim (λ y. omega (arith, y.0)) (λ y. omega (arith, y.0)) x.route;
        end = ⊎_elim (λ y. omega (arith, y.0)) (⊎_elim (λ y. omega (arith, y.0)) (λ y. omega (arith, y.0))) x.end;
        time = omega (arith, x.time, first);
        age = omega (arith, x.age, last);
      }

-- ---- there are no more shifts than records
no_longer : (k n : ℕ) (e : Shift) (es : List Shift) → length es ≤ n → length (entry_for k e es) ≤ suc n
no_longer zero n e es h = omega arith
no_longer (suc k) n e es h = omega arith

pub no_more_than_records : (i : ℕ) (s : State) (rs : List Reading) → length (shifts_from i s rs) ≤ length rs
no_more_than_records i s [] = omega arith
no_more_than_records i s (r ∷ rs) =
    no_longer (kind_of r) (length rs) (whole (begun (kind_of r) i s.clock) (suc i) (led s r) rs) (shifts_from (suc i) (led s r) rs)
    (no_more_than_records (suc i) (led s r) rs)

-- ---- of an accepted file
module _ (f : List ℕ) (z : (verdict_of f).number ≡ 0) where
  records_of_a_file : length (readings_of f) ≤ 16372
  records_of_a_file = omega (arith, as_many_records f (read f z), (good_file f (read f z)).most)

  pub shifts_of_a_file : length (shifts_of f) ≤ 16372
  shifts_of_a_file = omega (arith, no_more_than_records 0 start (readings_of f), records_of_a_file)

  pub entries_of_a_file_fit : (i : ℕ) → i < length (shifts_of f) → Fits (get_or (shifts_of f) i no_shift)
  entries_of_a_file_fit i h =
      let few = records_of_a_file in
      fits start (readings_of f) (file_sound f z) (omega arith) (omega arith) (get_or (shifts_of f) i no_shift)
      ((the_entries start (readings_of f)).each i h)
