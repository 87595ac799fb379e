-- `Step::of_head` meets its contract: a tick with a good middle byte, each arm by its number, and what is left is no step.
-- Assumes nothing.
use mathlib.Core.Path.{ap, ◌∙◌}
use Rattle.std.specs.Prelude.{Err}
use Rattle.shift.proofs.HeadLaws.{no_tick, no_arm}
use Rattle.shift.proofs.Step.of_head.Goals as goal

pub returns-then-amount-ne0 : goal.returns-then-amount-ne0
returns-then-amount-ne0 c =
    let a = c.args in
    ap Err c.wrong.ensures ∙ no_tick a.head a.amount c.if-head-eq12.false c.if-amount-ne0.true

pub returns-in_default : goal.returns-in_default
returns-in_default c =
    let a = c.args in
    ap Err c.wrong-in_default.ensures ∙ no_arm a.head a.amount c.if-amount-ne0.false c.in_default.in_default-own.rest

pub returns-then-head-eq12 : goal.returns-then-head-eq12
returns-then-head-eq12 c = rw c.if-head-eq12.true c.ticking.ensures

pub returns-in-1 : goal.returns-in-1
returns-in-1 c = rw (c.in-1.is, c.if-amount-ne0.false)

pub returns-in-2 : goal.returns-in-2
returns-in-2 c = rw (c.in-2.is, c.if-amount-ne0.false)

pub returns-in-3 : goal.returns-in-3
returns-in-3 c = rw (c.in-3.is, c.if-amount-ne0.false)

pub returns-in-4 : goal.returns-in-4
returns-in-4 c = rw (c.in-4.is, c.if-amount-ne0.false)

pub returns-in-5 : goal.returns-in-5
returns-in-5 c = rw (c.in-5.is, c.if-amount-ne0.false)

pub returns-in-6 : goal.returns-in-6
returns-in-6 c = rw (c.in-6.is, c.if-amount-ne0.false)

pub returns-in-7 : goal.returns-in-7
returns-in-7 c = rw (c.in-7.is, c.if-amount-ne0.false)

pub returns-in-8 : goal.returns-in-8
returns-in-8 c = rw (c.in-8.is, c.if-amount-ne0.false)

pub returns-in-9 : goal.returns-in-9
returns-in-9 c = rw (c.in-9.is, c.if-amount-ne0.false)

pub returns-in-10 : goal.returns-in-10
returns-in-10 c = rw (c.in-10.is, c.if-amount-ne0.false)

pub returns-in-11 : goal.returns-in-11
returns-in-11 c = rw (c.in-11.is, c.if-amount-ne0.false)

pub returns-in-13 : goal.returns-in-13
returns-in-13 c = rw (c.in-13.is, c.if-amount-ne0.false)
