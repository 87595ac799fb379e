-- `list` is safe: the list lies within its buffer.
-- Assumes nothing.
use Rattle.std.proofs.Common.{ℕ, ◌≤◌, List}
use mathlib.Core.Path.{◌≡◌, sym, subst}
use native.Mathlib.Omega.{arith}
use lib.Dec.{leb, eqb}
use lib.ListN.{length, replicate, length-replicate}
use lib.Seq.{length-take-le}
use borrow.Author.Tests.{leb-true}
use Rattle.checks.proofs.Tests.{case}
use Rattle.verdict.specs.declared.Verdict.{Verdict}
use Rattle.verdict.specs.Verdicts.{verdict_of}
use Rattle.shiftlist.specs.declared.Listed.{Listed}
use Rattle.shiftlist.specs.Lists.{after_judge, fitting, size_for, shifts_of}
use Rattle.shiftlist_main.proofs.list.Goals as goal

-- what is listed lies within the room
within : (v : Verdict) (size room : ℕ) → (after_judge v (fitting size room)).length ≤ room
within v size room =
    case (eqb v.number 0)
    (λ e. rw e (case (leb size room) (λ h. rw h (leb-true size room h)) (λ h. rw h (omega arith))))
    (λ e. rw e (omega arith))

held : (file : List ℕ) (b : Listed) → b ≡ after_judge (verdict_of file) (fitting (size_for (shifts_of file)) (length {A = ℕ} (replicate 261960 0))) → b.length ≤ 261960
held file b e =
    let room = length {A = ℕ} (replicate 261960 0) in
    let fits : b.length ≤ room = subst (λ (l : Listed). l.length ≤ room) (sym e) (within (verdict_of file) (size_for (shifts_of file)) room) in
    omega (arith, length-replicate {A = ℕ} 261960 0)

pub slice_bounds-list-end : goal.slice_bounds-list-end
slice_bounds-list-end c =
    let build = c.build-listed in
    let fits = held c.args.file.now build.result build.ensures.value in
    omega (arith, build.auto.out)

pub slice_bounds-write-end : goal.slice_bounds-write-end
slice_bounds-write-end c =
    let build = c.build-listed in
    let fits = held c.args.file.now build.result build.ensures.value in
    let laid : build.result.length ≤ length build.new.out = omega (arith, build.auto.out) in
    sym (length-take-le build.result.length build.new.out laid)
