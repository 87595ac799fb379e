-- `line` writes the line where that fits.
use Rattle.std.proofs.Common.{rules, ◌≡◌, ◌≤◌, ℕ, List, length, take, replicate, refl, ap, ◌∙◌}
use Rattle.std.specs.Prelude.{Ok, Err}
use Rattle.std.specs.Result.{result_unwrap_or}
use Rattle.std.specs.declared.result.Result.{Result}
use Rattle.std.proofs.Math.Seq.{take-append_seam}
use borrow.Author.Tests.{le-leb}
use Rattle.line.specs.declared.NoRoom.{NoRoom}
use Rattle.line.specs.Laying.{Laid, laid, laid_in, after}
use Rattle.verdict.specs.Said.{line_for}
use Rattle.output.proofs.line.Goals as goal

-- what was laid is the text, where that fits
whole : (text out : List ℕ) → length text ≤ length out → take (laid text out).length (after text out) ≡ text
whole text out h = let yes = le-leb (length text) (length out) h in rw yes (take-append_seam text _)

length_in : (answer : Result ℕ NoRoom) → result_unwrap_or answer 0 ≡ (laid_in answer).length
length_in (Ok n) = refl
length_in (Err e) = refl

pub returns : goal.returns
returns g c h =
    let line = c.line in
    let text = line_for c.args.file.now in
    let room : List ℕ = replicate 128 0 in
    let end : c.unwrap_or-end.result ≡ (laid text room).length = search rules ∙ length_in line.result ∙ ap (λ (l : Laid). l.length) line.ensures.value in
    let same : take c.unwrap_or-end.result line.new.out ≡ text =
    ap (λ n. take n line.new.out) end ∙ ap (λ xs. take (laid text room).length xs) line.ensures.out_after ∙ whole text room h in
    search rules
