-- Laws on extending the list of an accepted file: nothing refuses it before its records are judged, and the entries that are laid behind
-- those that are over are the shifts of the longer file.
-- Assumes nothing.
use mathlib.Core.Path.{◌≡◌, refl, sym, ap, subst, ◌∙◌}
use mathlib.Core.Bool.{Bool, true, false, ◌||◌}
use mathlib.Core.List.{List, [], ◌∷◌, ◌++◌}
use Prim.Native.Nat.{ℕ, zero, suc, ◌+◌, ◌*◌, ◌-◌, ◌/◌, ◌%◌, ◌≤◌}
use native.Mathlib.Omega.{arith}
use lib.Dec.{eqb}
use lib.ListN.{length, get_or, length-append}
use borrow.Author.Tests.{le-leb, ne_eqb}
use Rattle.checks.specs.Checks.{first}
use Rattle.checks.proofs.Tests.{case}
use Rattle.limits.specs.Rules.{broken_rule}
use Rattle.numbers.specs.Bytes.{u32_at}
use Rattle.phases.specs.Phases.{unfinished}
use Rattle.shift.specs.declared.State.{State}
use Rattle.shift.specs.States.{start}
use Rattle.stepfile.specs.Records.{records_in}
use Rattle.stepfile.specs.Files.{table_in}
use Rattle.stepfile.specs.Writing.{most_for}
use Rattle.trace.specs.Traces.{Trace, trace_of}
use Rattle.trace.proofs.TraceLaws.{Sound}
use Rattle.shiftlist.specs.declared.Shift.{Shift}
use Rattle.shiftlist.specs.Shifts.{whole, shifts_from}
use Rattle.shiftlist.specs.Lists.{list_of, shifts_of, size_for, shift_at, no_shift}
use Rattle.shiftlist.specs.Walks.{trace_in, in_hand, with}
use Rattle.shiftlist.proofs.WalkLaws.{whole_on, shifts_on, whole_same, shifts_same, makes}
use Rattle.shiftlist.proofs.Extended.{sound_pieces, end_trace, grows}
use Rattle.shiftlist.proofs.BuildLaws.{begin}
use Rattle.shiftlist.proofs.ListLaws.{list_long}
use Rattle.shiftlist.proofs.WidthLaws.{shifts_of_a_file, entries_of_a_file_fit}
use Rattle.shiftlist_extend.specs.Extending.{is_open, is_over, fits, laid_on, grounds, last_entry, laid, from, size}
use Rattle.shiftlist_extend.proofs.GroundLaws.{last_ground}
use Rattle.shiftlist_extend.proofs.RelaidLaws.{last_read}
use Rattle.shiftlist_extend.proofs.AppendedLaws.{Appended, count_is, readings_are, few_records, admitted, further, all_sound}
use Rattle.shiftlist_extend.proofs.EndLaws.{es, rs, s, n, c, z, keeps, es_are, many, one_more, last_is, is_open_lem, is_over_lem}

module _ (f g bytes tail : List ℕ) (a : Appended f g bytes) where
  abbrev old : List Shift
  old = es f g bytes a

  abbrev end : State
  end = s f g bytes a

  abbrev records : ℕ
  records = n f g bytes a

  abbrev over : List Shift
  over = c f g bytes a

  -- the buffer: the list of f, and what stands behind it
  abbrev pub list : List ℕ
  list = list_of old ++ tail

  abbrev pub held : ℕ
  held = size_for old

  few : length old ≤ 16372
  few = shifts_of_a_file f a.accepted

  -- ---- what is read of it
  count_read : u32_at list 0 ≡ length old
  count_read =
      let m = length old in
      let small = few in
      let e : m % 65536 % 256 + 256 * (m % 65536 / 256) + 65536 * (m / 65536 % 256 + 256 * (m / 65536 / 256)) ≡ m = omega arith in
      e

  abbrev pub last : Shift
  last = last_entry list held end records (table_in f) bytes

  last_there : (m : ℕ) → length old ≡ suc m → last ≡ get_or old m no_shift
  last_there m e =
      let place : held - 16 ≡ 8 + 16 * m = omega (arith, e) in
      ap (shift_at list) place ∙ last_read old m tail e (entries_of_a_file_fit f a.accepted m (omega (arith, e)))

  pub open_last : unfinished end.phase ≡ true → last ≡ in_hand (z f g bytes a)
  open_last u = last_there (length over) (one_more f g bytes a u) ∙ last_is f g bytes a u

  -- ---- nothing refuses it
  fit : fits (length old) last end records ≡ true
  fit =
      case (unfinished end.phase)
      (λ u.
      rw (u, le-leb 1 (length old) (omega (arith, one_more f g bytes a u)))
      (ap (λ (e : Shift). is_open e end records) (open_last u) ∙ is_open_lem f g bytes a u))
      (λ u. rw u (none_or_over u (length old) refl))
    where
      none_or_over : unfinished end.phase ≡ false → (m : ℕ) → length old ≡ m → eqb m 0 || is_over last records ≡ true
      none_or_over u zero e = refl
      none_or_over u (suc m) e =
          rw (ne_eqb (suc m) 0 (λ q. omega arith)) (ap (λ (q : Shift). is_over q records) (last_there m e) ∙ is_over_lem f g bytes a u m e)

  pub no_ground : first (grounds list held end records (table_in f) bytes) ≡ 0
  no_ground =
      let long = list_long old in
      let all = length-append (list_of old) tail in
      sym (last_ground (length list) held (u32_at list 4) (u32_at list 0) last end records (length bytes / 4) (most_for (table_in f)) (broken_rule (table_in f)) (omega (arith, long, all)) (omega arith)
      refl (omega (arith, count_read)) (few_records f g bytes a) (omega (arith, count_read, many f g bytes a)) (admitted f g bytes a) true
      (ap (λ k. fits k last end records) count_read ∙ fit))

  -- ---- the entries that are laid
  abbrev pub new : List Shift
  new = laid list held end records (table_in f) bytes

  pub place : from list held end records (table_in f) bytes ≡ 8 + 16 * length over
  place =
      case (unfinished end.phase)
      (λ u. rw u (omega (arith, one_more f g bytes a u)))
      (λ u.
      let e = ap length (es_are f g bytes a ∙ ap (λ b. over ++ with b (in_hand (z f g bytes a)) []) u) in
      let l = length-append over [] in
      rw u (omega (arith, e, l)))

  pub shifts_are : (further f g bytes a).number ≡ 0 → shifts_of g ≡ over ++ new
  shifts_are accepted =
      let xs = rs f g bytes a in
      let ys = records_in bytes in
      let w = z f g bytes a in
      let h = all_sound f g bytes a accepted in
      let sound-there = subst (λ t. Sound t ys) (sym (end_trace begin 0 xs)) (sound_pieces (trace_of start) xs ys h).1 in
      let number : 0 + length xs ≡ records = omega (arith, count_is f g bytes a) in
      ap (λ q. shifts_from 0 start q) (readings_are f g bytes a)
      ∙ shifts_same 0 start (xs ++ ys)
      ∙ grows 0 (trace_of start) xs ys refl h
      ∙ ap (λ q. over ++ q)
      (makes w (0 + length xs) ys sound-there
      ∙ ap (λ k. with (unfinished w.phase) (whole_on (in_hand w) k (trace_in w) ys) (shifts_on k (trace_in w) ys)) number
      ∙ ap (λ (t : Trace). with (unfinished t.phase) (whole_on (in_hand w) records t ys) (shifts_on records t ys)) (keeps f g bytes a).trace
      ∙ by (unfinished end.phase) refl)
    where
      by :
          (b : Bool) → unfinished end.phase ≡ b
          → with b (whole_on (in_hand (z f g bytes a)) records (trace_of end) (records_in bytes)) (shifts_on records (trace_of end) (records_in bytes))
          ≡ laid_on b last records end (records_in bytes)
      by true u =
          let ys = records_in bytes in
          ap (λ (e : Shift). whole_on e records (trace_of end) ys ∷ shifts_on records (trace_of end) ys) (sym (open_last u))
          ∙ ap (λ e. e ∷ shifts_on records (trace_of end) ys) (sym (whole_same last records end ys))
          ∙ ap (λ q. whole last records end ys ∷ q) (sym (shifts_same records end ys))
      by false u = sym (shifts_same records end (records_in bytes))

  pub size_is : (further f g bytes a).number ≡ 0 → size list held end records (table_in f) bytes ≡ size_for (shifts_of g)
  size_is accepted =
      let l = ap length (shifts_are accepted) ∙ length-append over new in
      omega (arith, l, place)
