-- `refused` meets its contract: the header's refusal, then the table's, then none.
-- Assumes nothing.
use mathlib.Core.Path.{◌≡◌, ap, ◌∙◌}
use Rattle.std.proofs.Common.{rules, Err}
use Rattle.limits.specs.Rules.{broken_rule}
use Rattle.limits.proofs.NumberLaws.{some_number}
use Rattle.stepfile.specs.declared.Unread.{Unread}
use Rattle.stepfile.specs.Files.{refused_as}
use Rattle.stepfile.proofs.FileLaws.{by_header, rule_refused}
use Rattle.stepfile.proofs.refused.Goals as goal

pub returns-in_err-header : goal.returns-in_err-header
returns-in_err-header c =
    let e = by_header c.args.file.now c.in_err-header.field-0.0 c.in_err-header.ensures in
    search rules

pub returns-in_err-admit : goal.returns-in_err-admit
returns-in_err-admit c =
    let rule = c.in_err-admit.field-0.0 in
    let same : c.from_residual-in_err-admit.result ≡ Err (Unread.Table rule) = search rules in
    ap refused_as same
    ∙ rule_refused c.args.file.now c.in_ok-header.ensures (λ i. 0)
    (c.in_err-admit.ensures ∙ ap broken_rule c.table.ensures) (some_number rule)
