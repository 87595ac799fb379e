-- `write` is safe: the file lies within its buffer.
use Rattle.std.proofs.Common.{rules, arith, ◌≡◌, ◌≤◌, ℕ, [], length, refl, ap, sym, ◌∙◌, subst}
use Rattle.std.specs.Prelude.{eqb, leb, Ok, Err}
use Rattle.std.specs.Result.{result_unwrap_or}
use Rattle.std.specs.declared.result.Result.{Result}
use Rattle.std.proofs.Math.Seq.{length-take-le}
use borrow.Author.Tests.{leb-true}
use Rattle.checks.specs.Checks.{first}
use Rattle.checks.proofs.Tests.{case}
use Rattle.limits.specs.Rules.{broken_rule}
use Rattle.limits.specs.declared.Table.{Table}
use Rattle.stepfile.specs.declared.write.Unwritten.{Unwritten}
use Rattle.stepfile.specs.declared.write.Unwritten.TheVariants.{TooMany, Uneven, Record, NoRoom}
use Rattle.stepfile.specs.Writing.{Written, Wrong, after_lists, after_records, fitting, first_wrong, size_of, writable, written_as, written_of}
use Rattle.admit_file.proofs.write.Goals as goal

-- what is written lies within the room
within : (number rule : ℕ) (w : Wrong) (size room : ℕ)
    → (after_lists number rule (after_records w (fitting size room))).length ≤ room
within number rule w size room =
    case (eqb number 0)
    (λ e.
    rw e
    (case (eqb w.number 0)
    (λ f. rw f (case (leb size room) (λ h. rw h (leb-true size room h)) (λ h. rw h (omega arith))))
    (λ f. rw f (omega arith))))
    (λ e. rw e (omega arith))

length_in : (answer : Result ℕ Unwritten) → result_unwrap_or answer 0 ≡ (written_as answer).length
length_in (Ok size) = refl
length_in (Err TooMany) = refl
length_in (Err Uneven) = refl
length_in (Err (Unwritten.Table rule)) = refl
length_in (Err (Record index misread)) = refl
length_in (Err NoRoom) = refl

held : (table : Table) (answer : Result ℕ Unwritten) (room : ℕ) → written_as answer ≡ written_of table [] [] room → result_unwrap_or answer 0 ≤ room
held table answer room e =
    let same : result_unwrap_or answer 0 ≡ (written_of table [] [] room).length = length_in answer ∙ ap (λ (w : Written). w.length) e in
    subst (λ n. n ≤ room) (sym same) (within (first (writable table [] [])) (broken_rule table) (first_wrong 0 [] []) (size_of table []) room)

pub slice_bounds-file-end : goal.slice_bounds-file-end
slice_bounds-file-end c =
    let write = c.write in
    let length_is : c.unwrap_or-length.result ≡ result_unwrap_or write.result 0 = search rules in
    let fits = held c.args.table write.result _ write.ensures.value in
    omega (arith, write.auto.out)

pub slice_bounds-write-end-4 : goal.slice_bounds-write-end-4
slice_bounds-write-end-4 c =
    let write = c.write in
    let length_is : c.unwrap_or-length.result ≡ result_unwrap_or write.result 0 = search rules in
    let fits = held c.args.table write.result _ write.ensures.value in
    let laid : c.unwrap_or-length.result ≤ length write.new.out = omega (arith, write.auto.out) in
    sym (length-take-le c.unwrap_or-length.result write.new.out laid)
