-- `extend` meets its contract: a ground, the judge's refusal and 15, which leave the list, or the list extended.
-- Assumes nothing.
use mathlib.Core.Path.{refl, sym, ap, ◌∙◌}
use mathlib.Core.Bool.{cond}
use Prim.Native.Nat.{◌≤◌}
use native.Mathlib.Omega.{arith}
use lib.Dec.{eqb}
use Rattle.limits.specs.Rules.{broken_rule}
use Rattle.verdict.specs.declared.Verdict.{Verdict}
use Rattle.verdict.proofs.Verdicts.{outcome}
use Rattle.shiftlist.specs.Lists.{refused_by}
use Rattle.shiftlist.proofs.LaidLaws.{size_none, size_some}
use Rattle.shiftlist_extend.specs.Resuming.{number_of, number_in, rule_in}
use Rattle.shiftlist_extend.proofs.ExtendLaws.{index_small, some_number, at_ground, at_run, by_size}
use Rattle.shiftlist_extend.proofs.extend.Goals as goal

pub returns-in-Err : goal.returns-in-Err
returns-in-Err c =
    let a = c.args in
    let g = c.in-Err.ground in
    let k = number_of g in
    let number = sym (ap number_in c.in-Err.is) ∙ c.ground.ensures.number in
    let rule = sym (ap rule_in c.in-Err.is) ∙ c.ground.ensures.rule ∙ ap (λ q. cond (eqb q 4) (broken_rule a.table) 0) (ap number_in c.in-Err.is) in
    let n = at_ground a.list.now a.held a.state a.count a.table a.records.now k number (some_number g) in record {
      value = c.listed.ensures ∙ ap (λ q. refused_by k q 0 0) rule ∙ n.0;
      list_after = n.1;
    }

pub overflow_add-index : goal.overflow_add-index
overflow_add-index c =
    let v = c.judge_records-verdict in
    let a = c.args in
    let z = ap (λ (x : Verdict). x.number) v.ensures in
    let i = ap (λ (x : Verdict). x.index) v.ensures in
    let small = index_small a.table a.state a.records.now (λ q. c.if-number-ne0.true (z ∙ q)) in
    omega (arith, i, small, c.well_formed)

pub returns-then-number-ne0 : goal.returns-then-number-ne0
returns-then-number-ne0 c =
    let v = c.judge_records-verdict in
    let a = c.args in
    let none = sym (sym (ap number_in c.in_default.is) ∙ c.ground.ensures.number) in
    let n =
    at_run a.list.now a.held a.state a.count a.table a.records.now none
    (outcome v.result) (ap outcome v.ensures) c.if-number-ne0.true
    in record {
      value = c.refused.ensures ∙ n.0;
      list_after = n.1;
    }

pub returns-in_default-go_on : goal.returns-in_default-go_on
returns-in_default-go_on c =
    let v = c.judge_records-verdict in
    let a = c.args in
    let none = sym (sym (ap number_in c.in_default.is) ∙ c.ground.ensures.number) in
    let z = sym (ap (λ (x : Verdict). x.number) v.ensures) ∙ c.if-number-ne0.false in
    let clock : a.state.clock ≤ 4294967295 = omega (arith, c.well_formed) in
    let size = size_none _ (sym c.in_default-go_on.is ∙ c.go_on.ensures.value) in
    let k = by_size a.list.now a.held a.state a.count a.table a.records.now none z clock 0 c.go_on.new.list (sym size) c.go_on.ensures.list_after in
    let n = k.0 refl in record {
      value = c.refused-in_default-go_on.ensures ∙ n.0;
      list_after = n.1;
    }

pub returns : goal.returns
returns c =
    let v = c.judge_records-verdict in
    let a = c.args in
    let none = sym (sym (ap number_in c.in_default.is) ∙ c.ground.ensures.number) in
    let z = sym (ap (λ (x : Verdict). x.number) v.ensures) ∙ c.if-number-ne0.false in
    let clock : a.state.clock ≤ 4294967295 = omega (arith, c.well_formed) in
    let size = size_some c.in-Some.size _ (sym c.in-Some.is ∙ c.go_on.ensures.value) in
    let k = by_size a.list.now a.held a.state a.count a.table a.records.now none z clock c.in-Some.size c.go_on.new.list size.0 c.go_on.ensures.list_after in
    let n = k.1 size.1 in record {
      value = c.long.ensures ∙ n.0;
      list_after = n.1;
    }
