-- `Table::admit` meets its contract: the first broken rule of the first group that has one.
-- Assumes nothing.
use mathlib.Core.Path.{◌≡◌, refl, sym, ◌∙◌}
use mathlib.Core.List.{List, ◌++◌}
use Rattle.std.specs.Prelude.{Err}
use Rattle.std.proofs.Common.{rules}
use Rattle.checks.specs.Checks.{Check, first, numbered}
use Rattle.checks.proofs.Checks.{found_left, found_right}
use Rattle.limits.specs.declared.Table.{Table}
use Rattle.limits.specs.declared.Rule.{Rule}
use Rattle.limits.specs.Rules.{engine_rules, device_rules, ask_rules, route_rules, delay_rules, number_of}
use Rattle.limits.proofs.NumberLaws.{some_number}
use Rattle.limits.proofs.Table.admit.Goals as goal

-- the checks of each group, and of it and those behind it
abbrev engines : Table → List Check
engines t = numbered 2 (engine_rules t)

abbrev devices : Table → List Check
devices t = numbered 4 (device_rules t)

abbrev asks : Table → List Check
asks t = numbered 8 (ask_rules t)

abbrev routes : Table → List Check
routes t = numbered 12 (route_rules t)

abbrev from_routes : Table → List Check
from_routes t = routes t ++ numbered 16 (delay_rules t)

abbrev from_asks : Table → List Check
from_asks t = asks t ++ from_routes t

abbrev from_devices : Table → List Check
from_devices t = devices t ++ from_asks t

stops : (r : Rule) (xs ys : List Check) → number_of r ≡ first xs → number_of r ≡ first (xs ++ ys)
stops r xs ys e = found_left xs ys e (some_number r)

pub returns-in_err-engine_rules : goal.returns-in_err-engine_rules
returns-in_err-engine_rules c =
    let t = c.args.self in
    let r = c.in_err-engine_rules.field-0.0 in
    let back : c.from_residual.result ≡ Err r = search rules in
    rw (back, sym c.is_set.ensures ∙ c.if-not-is_set.false) (stops r (engines t) (from_devices t) c.in_err-engine_rules.ensures)

pub returns-in_err-device_rules : goal.returns-in_err-device_rules
returns-in_err-device_rules c =
    let t = c.args.self in
    let r = c.in_err-device_rules.field-0.0 in
    let back : c.from_residual-in_err-device_rules.result ≡ Err r = search rules in
    rw (back, sym c.is_set.ensures ∙ c.if-not-is_set.false)
    (found_right (engines t) (from_devices t) tt c.in_ok-engine_rules.ensures refl
    (stops r (devices t) (from_asks t) c.in_err-device_rules.ensures))

pub returns-in_err-ask_rules : goal.returns-in_err-ask_rules
returns-in_err-ask_rules c =
    let t = c.args.self in
    let r = c.in_err-ask_rules.field-0.0 in
    let back : c.from_residual-in_err-ask_rules.result ≡ Err r = search rules in
    rw (back, sym c.is_set.ensures ∙ c.if-not-is_set.false)
    (found_right (engines t) (from_devices t) tt c.in_ok-engine_rules.ensures refl
    (found_right (devices t) (from_asks t) tt c.in_ok-device_rules.ensures refl
    (stops r (asks t) (from_routes t) c.in_err-ask_rules.ensures)))

pub returns-in_err-route_rules : goal.returns-in_err-route_rules
returns-in_err-route_rules c =
    let t = c.args.self in
    let r = c.in_err-route_rules.field-0.0 in
    let back : c.from_residual-in_err-route_rules.result ≡ Err r = search rules in
    rw (back, sym c.is_set.ensures ∙ c.if-not-is_set.false)
    (found_right (engines t) (from_devices t) tt c.in_ok-engine_rules.ensures refl
    (found_right (devices t) (from_asks t) tt c.in_ok-device_rules.ensures refl
    (found_right (asks t) (from_routes t) tt c.in_ok-ask_rules.ensures refl
    (stops r (routes t) (numbered 16 (delay_rules t)) c.in_err-route_rules.ensures))))
