-- A good file holds its table and its records as the words of specs/Refusals.antt say.
-- Assumes nothing.
use mathlib.Core.Path.{◌≡◌, ap, ◌∙◌}
use mathlib.Core.List.{List}
use Prim.Native.Nat.{ℕ, ◌+◌, ◌*◌, ◌<◌}
use native.Mathlib.Omega.{arith}
use lib.ListN.{length, get_or, drop}
use lib.Seq.{get_or-drop}
use Rattle.std.specs.Prelude.{Err}
use Rattle.shift.specs.declared.Misread.TheVariants.{WrongCode}
use Rattle.shift.specs.Answers.{reading}
use Rattle.shift.proofs.Refusals.{reads}
use Rattle.stepfile.specs.Files.{table_in, refusal_of, record_bytes, readings_of}
use Rattle.stepfile.specs.Refusals.{bits16, place, FileHolds}
use Rattle.stepfile.proofs.RecordLaws.{record_at, record_in}
use Rattle.stepfile.proofs.TableLaws.{with_twenty_two, with_eighteen, without_entries, records_from}
use Rattle.stepfile.proofs.WholeLaws.{good_file}
use Rattle.stepfile.proofs.RoundTrip.{as_many_records}

module _ (f : List ℕ) (z : (refusal_of f).number ≡ 0) where
  -- the record at an index is read of the four bytes at its place
  pub read_there :
      (i : ℕ) → i < length (readings_of f)
      → get_or (readings_of f) i (Err WrongCode) ≡ reading (get_or f (place f i) 0) (get_or f (place f i + 1) 0) (bits16 f (place f i + 2))
  read_there i h =
      let good = good_file f z in
      let whole = good.whole in
      let offset = 12 + 2 * bits16 f 2 in
      let bytes : record_bytes f ≡ drop offset f = records_from f z (omega arith) ∙ ap (λ k. drop k f) good.follow in
      let one : offset + (4 * i + 1) ≡ offset + 4 * i + 1 = omega arith in
      let two : offset + (4 * i + 2) ≡ offset + 4 * i + 2 = omega arith in
      let three : offset + (4 * i + 3) ≡ offset + 4 * i + 2 + 1 = omega arith in
      record_in (record_bytes f) i h
      ∙ ap (λ l. record_at l (4 * i)) bytes
      ∙ rw (
        get_or-drop offset f (4 * i) 0,
        get_or-drop offset f (4 * i + 1) 0,
        get_or-drop offset f (4 * i + 2) 0,
        get_or-drop offset f (4 * i + 3) 0,
        one,
        two,
        three,
      )

  pub good_files_hold : FileHolds f (table_in f) (readings_of f)
  good_files_hold =
      record {
        without_entries = without_entries f;
        with_eighteen = λ e. let whole = (good_file f z).whole in with_eighteen f (omega arith) e;
        with_twenty_two = λ e. let whole = (good_file f z).whole in with_twenty_two f (omega arith) e;
        count = as_many_records f z ∙ omega arith;
        each = λ i h.
            rw (read_there i h) (reads (get_or f (place f i + 1) 0) (bits16 f (place f i + 2)) (get_or f (place f i) 0));
      }
