-- `build` meets its contract: the judge's refusal and 15, which leave the buffer, or the list in it.
-- Assumes nothing.
use Rattle.std.proofs.Common.{refl, sym, ap, ◌∙◌, arith}
use Rattle.stepfile.specs.Files.{from_offset}
use Rattle.verdict.specs.declared.Verdict.{Verdict}
use Rattle.shiftlist.specs.declared.walk.Walk.{Walk}
use Rattle.shiftlist.specs.Lists.{listed_long}
use Rattle.shiftlist.specs.Walks.{unless_0, laid_size, laid_in}
use Rattle.shiftlist.proofs.BuildLaws.{begin, at_zero, few_records, at_judge, not_laid, was_laid}
use Rattle.shiftlist.proofs.LaidLaws.{none_laid, some_laid, size_none, size_some}
use Rattle.shiftlist.proofs.build.Goals as goal

pub returns-then-number-ne0 : goal.returns-then-number-ne0
returns-then-number-ne0 c =
    let a = c.args in
    let v = c.judge-verdict in
    let k = at_judge a.file.now a.out.now v.result v.ensures c.if-number-ne0.true in record {
      value = c.refused.ensures ∙ k.0;
      out_after = k.1;
    }

pub returns-in_default : goal.returns-in_default
returns-in_default c =
    let a = c.args in
    let f = a.file.now in
    let z = sym (ap (λ (v : Verdict). v.number) c.judge-verdict.ensures) ∙ c.if-number-ne0.false in
    let walk = at_zero c.default-walk.result c.default-walk.ensures in
    let bytes = c.from_offset.ensures in
    let size = size_none _ (sym c.in_default.is ∙ c.lay.ensures.value ∙ ap (λ (w : Walk). unless_0 (laid_size a.out.now 8 w 0 c.from_offset.result.now)) walk ∙ ap (λ b. unless_0 (laid_size a.out.now 8 begin 0 b)) bytes) in
    let n = none_laid a.out.now 8 begin 0 (from_offset f) (few_records f z) (omega arith, omega arith) _ refl size in
    let k = not_laid f a.out.now z n.0 in record {
      value = c.refused-in_default.ensures ∙ k.0;
      out_after = c.lay.ensures.list_after ∙ ap (λ (w : Walk). laid_in a.out.now 8 w 0 c.from_offset.result.now) walk ∙ ap (laid_in a.out.now 8 begin 0) bytes ∙ sym n.1 ∙ k.1;
    }

pub returns : goal.returns
returns c =
    let a = c.args in
    let f = a.file.now in
    let z = sym (ap (λ (v : Verdict). v.number) c.judge-verdict.ensures) ∙ c.if-number-ne0.false in
    let walk = at_zero c.default-walk.result c.default-walk.ensures in
    let bytes = c.from_offset.ensures in
    let size = size_some c.in-Some.size _ (sym c.in-Some.is ∙ c.lay.ensures.value ∙ ap (λ (w : Walk). unless_0 (laid_size a.out.now 8 w 0 c.from_offset.result.now)) walk ∙ ap (λ b. unless_0 (laid_size a.out.now 8 begin 0 b)) bytes) in
    let n = some_laid a.out.now 8 begin 0 (from_offset f) (few_records f z) (omega arith, omega arith) c.in-Some.size size.0 size.1 in
    let k = was_laid f a.out.now z n.0 in record {
      value = c.long.ensures ∙ ap listed_long n.1 ∙ k.0;
      out_after = c.lay.ensures.list_after ∙ ap (λ (w : Walk). laid_in a.out.now 8 w 0 c.from_offset.result.now) walk ∙ ap (laid_in a.out.now 8 begin 0) bytes ∙ n.2 ∙ k.1;
    }
