-- `settled` meets its contract: a return where the event is not enabled, one for its number, and one for none.
-- Assumes nothing.
use mathlib.Core.Path.{◌≡◌, refl, ◌∙◌}
use mathlib.Core.Bool.{true, false}
use Rattle.std.proofs.Common.{rules}
use Rattle.manual.proofs.AnswerLaws.{refuses, accepts}
use Rattle.manual_engine.proofs.settled.Goals as goal

pub returns-then-not-e : goal.returns-then-not-e
returns-then-not-e c =
    let off : c.args.e.enabled ≡ false = search rules in
    c.refused.ensures ∙ rw off

pub returns-then-e-ne0 : goal.returns-then-e-ne0
returns-then-e-ne0 c =
    let e = c.args.e in
    let on : e.enabled ≡ true = search rules in
    c.refused-then-e-ne0.ensures ∙ rw on (refuses e.number e.excess e.after c.args.v refl refl c.if-e-ne0.true)

pub returns : goal.returns
returns c =
    let e = c.args.e in
    let on : e.enabled ≡ true = search rules in
    c.accepted.ensures ∙ rw on (accepts e.excess e.after c.args.v c.if-e-ne0.false)
