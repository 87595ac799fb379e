-- `End::ground` meets its contract: one return for each check.
-- Assumes nothing.
use mathlib.Core.Path.{sym, ◌∙◌}
use mathlib.Core.Bool.{true, false}
use Prim.Native.Nat.{◌-◌, ◌/◌}
use lib.ListN.{length}
use Rattle.numbers.specs.Bytes.{u32_at}
use Rattle.limits.specs.Rules.{broken_rule}
use Rattle.limits.proofs.NumberLaws.{some_number}
use Rattle.stepfile.specs.Writing.{most_for}
use native.Mathlib.Omega.{arith}
use Rattle.checks.proofs.Checks.{refused}
use Rattle.checks.proofs.Tests.{tests, ne→neqb}
use Rattle.shiftlist.specs.Lists.{shift_at}
use Rattle.shiftlist_extend.specs.Extending.{grounds}
use Rattle.shiftlist_extend.proofs.GroundLaws.{by_fit}
use Rattle.shiftlist_extend.proofs.End.ground.Goals as goal

pub returns-then-list-self-clause-number : goal.returns-then-list-self-clause-number
returns-then-list-self-clause-number c =
    let a = c.args in
    sym (refused (grounds a.list.now a.self.held a.self.state a.self.count a.table a.records.now) 0 (omega (arith, tests)))

pub returns-then-self-lt8-clause-number : goal.returns-then-self-lt8-clause-number
returns-then-self-lt8-clause-number c =
    let a = c.args in
    sym (refused (grounds a.list.now a.self.held a.self.state a.self.count a.table a.records.now) 1 (omega (arith, tests)))

pub returns-then-u32_at-ne8-clause-number : goal.returns-then-u32_at-ne8-clause-number
returns-then-u32_at-ne8-clause-number c =
    let a = c.args in
    sym (refused (grounds a.list.now a.self.held a.self.state a.self.count a.table a.records.now) 2 (omega (arith, tests, c.u32_at.ensures)))

pub returns-then-self-shifts-clause-number : goal.returns-then-self-shifts-clause-number
returns-then-self-shifts-clause-number c =
    let a = c.args in
    sym (refused (grounds a.list.now a.self.held a.self.state a.self.count a.table a.records.now) 3 (omega (arith, tests, c.u32_at.ensures, c.u32_at-shifts.ensures)))

pub returns-then-most-self-clause-number : goal.returns-then-most-self-clause-number
returns-then-most-self-clause-number c =
    let a = c.args in
    sym (refused (grounds a.list.now a.self.held a.self.state a.self.count a.table a.records.now) 4 (omega (arith, tests, c.u32_at.ensures, c.u32_at-shifts.ensures, c.most_for-most.ensures)))

pub returns-then-self-shifts-2-clause-number : goal.returns-then-self-shifts-2-clause-number
returns-then-self-shifts-2-clause-number c =
    let a = c.args in
    sym (refused (grounds a.list.now a.self.held a.self.state a.self.count a.table a.records.now) 5 (omega (arith, tests, c.u32_at.ensures, c.u32_at-shifts.ensures, c.most_for-most.ensures)))

pub returns-in-Err-clause-number : goal.returns-in-Err-clause-number
returns-in-Err-clause-number c =
    let a = c.args in
    let broken = ne→neqb (broken_rule a.table) 0 (λ z. some_number c.in-Err.rule (c.in-Err.ensures ∙ z)) in
    sym (refused (grounds a.list.now a.self.held a.self.state a.self.count a.table a.records.now) 6 (omega (arith, tests, c.u32_at.ensures, c.u32_at-shifts.ensures, c.most_for-most.ensures, broken)))

pub returns-in-Err-clause-rule : goal.returns-in-Err-clause-rule
returns-in-Err-clause-rule c = c.in-Err.ensures

pub returns-then-not-does_fit-clause-number : goal.returns-then-not-does_fit-clause-number
returns-then-not-does_fit-clause-number c =
    let a = c.args in
    let l = a.list.now in
    let shifts = c.u32_at-shifts in
    let most = c.most_for-most in
    by_fit (length l) a.self.held (u32_at l 4) (u32_at l 0) (shift_at l (a.self.held - 16)) a.self.state a.self.count (length a.records.now / 4) (most_for a.table) (broken_rule a.table) (omega arith) (omega arith)
    (omega (arith, c.u32_at.ensures)) (omega (arith, shifts.ensures, c.if-self-shifts.false))
    (omega (arith, most.ensures, c.if-most-self.false)) (omega (arith, shifts.ensures, c.if-self-shifts-2.false)) (sym c.in_default.ensures) shifts.result c.last.result
    c.does_fit.result shifts.ensures c.last.ensures c.does_fit.ensures false c.if-not-does_fit.true

pub returns-clause-number : goal.returns-clause-number
returns-clause-number c =
    let a = c.args in
    let l = a.list.now in
    let shifts = c.u32_at-shifts in
    let most = c.most_for-most in
    by_fit (length l) a.self.held (u32_at l 4) (u32_at l 0) (shift_at l (a.self.held - 16)) a.self.state a.self.count (length a.records.now / 4) (most_for a.table) (broken_rule a.table) (omega arith) (omega arith)
    (omega (arith, c.u32_at.ensures)) (omega (arith, shifts.ensures, c.if-self-shifts.false))
    (omega (arith, most.ensures, c.if-most-self.false)) (omega (arith, shifts.ensures, c.if-self-shifts-2.false)) (sym c.in_default.ensures) shifts.result c.last.result
    c.does_fit.result shifts.ensures c.last.ensures c.does_fit.ensures true c.if-not-does_fit.false
