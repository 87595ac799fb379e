-- `take` meets its contract, by what the line says and whether its entry was given before.
-- Assumes nothing.
use Rattle.std.proofs.Common.{rules}
use mathlib.Core.Path.{sym, ap, ◌∙◌}
use native.Mathlib.Omega.{arith}
use lib.ListN.{get_or}
use lib.Seq.{set-set}
use Rattle.std.specs.Prelude.{None, Some, Err}
use Rattle.std.proofs.lemmas.List.{map-set}
use Rattle.tablewords.specs.Words.{behind}
use Rattle.tablewords.proofs.NumberLaws.{answered_number, answered_above, answered_none}
use Rattle.tabletext.specs.Answers.{value_in, values_in}
use Rattle.tabletext.specs.Texts.{number_behind}
use Rattle.tabletext.proofs.GivenLaws.{AllFit, set_fits}
use Rattle.tabletext.proofs.SaidLaws.{number_told, says_nothing, says_unnamed, says_entry, twice, no_number, too_large, sound}
use Rattle.tabletext.proofs.Entries.take.Goals as goal

-- ---- nothing
pub returns-then-is_empty-clause-ok : goal.returns-then-is_empty-clause-ok
returns-then-is_empty-clause-ok c =
    rw (says_nothing c.args.line.now _ c.first_word.ensures.word c.is_empty.result c.is_empty.ensures c.if-is_empty.true)

pub returns-then-is_empty-clause-given_after : goal.returns-then-is_empty-clause-given_after
returns-then-is_empty-clause-given_after c =
    rw (says_nothing c.args.line.now _ c.first_word.ensures.word c.is_empty.result c.is_empty.ensures c.if-is_empty.true)

-- ---- no name
pub returns-in_default-clause-number : goal.returns-in_default-clause-number
returns-in_default-clause-number c =
    let f = c.first_word.ensures.word in
    rw (says_unnamed c.args.line.now _ f c.is_empty.result c.is_empty.ensures c.if-is_empty.false _ c.entry_named.ensures c.in_default.is)

pub returns-in_default-clause-entry : goal.returns-in_default-clause-entry
returns-in_default-clause-entry c =
    let f = c.first_word.ensures.word in
    rw (says_unnamed c.args.line.now _ f c.is_empty.result c.is_empty.ensures c.if-is_empty.false _ c.entry_named.ensures c.in_default.is)

-- ---- an entry
pub returns-then-is_some-clause-number : goal.returns-then-is_some-clause-number
returns-then-is_some-clause-number c =
    let l = c.args.line.now in
    let f = c.first_word.ensures in
    let i = c.in-Some.entry in
    let n = says_entry l _ f.word c.is_empty.result c.is_empty.ensures c.if-is_empty.false _ c.entry_named.ensures i c.in-Some.is in
    let given = sym c.is_some.ensures ∙ c.if-is_some.true in
    rw n.1 (twice c.args.self.now.given i (number_behind (behind l)) (omega (arith, n.0)) (search rules) given)

pub returns-then-is_some-clause-entry : goal.returns-then-is_some-clause-entry
returns-then-is_some-clause-entry c =
    let l = c.args.line.now in
    let f = c.first_word.ensures in
    let i = c.in-Some.entry in
    let n = says_entry l _ f.word c.is_empty.result c.is_empty.ensures c.if-is_empty.false _ c.entry_named.ensures i c.in-Some.is in
    rw n.1

pub returns-in-Err-NotDigits-clause-number : goal.returns-in-Err-NotDigits-clause-number
returns-in-Err-NotDigits-clause-number c =
    let l = c.args.line.now in
    let f = c.first_word.ensures in
    let i = c.in-Some.entry in
    let n = says_entry l _ f.word c.is_empty.result c.is_empty.ensures c.if-is_empty.false _ c.entry_named.ensures i c.in-Some.is in
    let none = sym c.is_some.ensures ∙ c.if-is_some.false in
    let number = number_told l _ f.behind _ c.number_behind.ensures ∙ c.in-Err-NotDigits.is ∙ ap Err c.in-Err-NotDigits.field-0-is in
    rw n.1 (no_number c.args.self.now.given i (number_behind (behind l)) (omega (arith, n.0)) none (answered_none _ number))

pub returns-in-Err-NotDigits-clause-entry : goal.returns-in-Err-NotDigits-clause-entry
returns-in-Err-NotDigits-clause-entry c =
    let l = c.args.line.now in
    let f = c.first_word.ensures in
    let i = c.in-Some.entry in
    let n = says_entry l _ f.word c.is_empty.result c.is_empty.ensures c.if-is_empty.false _ c.entry_named.ensures i c.in-Some.is in
    rw n.1

pub returns-in-Err-Above-clause-number : goal.returns-in-Err-Above-clause-number
returns-in-Err-Above-clause-number c =
    let l = c.args.line.now in
    let f = c.first_word.ensures in
    let i = c.in-Some.entry in
    let n = says_entry l _ f.word c.is_empty.result c.is_empty.ensures c.if-is_empty.false _ c.entry_named.ensures i c.in-Some.is in
    let none = sym c.is_some.ensures ∙ c.if-is_some.false in
    let number = number_told l _ f.behind _ c.number_behind.ensures ∙ c.in-Err-Above.is ∙ ap Err c.in-Err-Above.field-0-is in
    rw n.1 (too_large c.args.self.now.given i (number_behind (behind l)) (omega (arith, n.0)) none (answered_above _ number))

pub returns-in-Err-Above-clause-entry : goal.returns-in-Err-Above-clause-entry
returns-in-Err-Above-clause-entry c =
    let l = c.args.line.now in
    let f = c.first_word.ensures in
    let i = c.in-Some.entry in
    let n = says_entry l _ f.word c.is_empty.result c.is_empty.ensures c.if-is_empty.false _ c.entry_named.ensures i c.in-Some.is in
    rw n.1

pub returns-clause-ok : goal.returns-clause-ok
returns-clause-ok c =
    let l = c.args.line.now in
    let f = c.first_word.ensures in
    let i = c.in-Some.entry in
    let n = says_entry l _ f.word c.is_empty.result c.is_empty.ensures c.if-is_empty.false _ c.entry_named.ensures i c.in-Some.is in
    let none = sym c.is_some.ensures ∙ c.if-is_some.false in
    let is = answered_number (number_behind (behind l)) c.in-Ok.number (number_told l _ f.behind _ c.number_behind.ensures ∙ c.in-Ok.is) in
    rw n.1 (sound c.args.self.now.given i (number_behind (behind l)) (omega (arith, n.0)) none (omega (arith, is)))

pub returns-clause-given_after : goal.returns-clause-given_after
returns-clause-given_after c =
    let l = c.args.line.now in
    let f = c.first_word.ensures in
    let i = c.in-Some.entry in
    let n = says_entry l _ f.word c.is_empty.result c.is_empty.ensures c.if-is_empty.false _ c.entry_named.ensures i c.in-Some.is in
    let is = answered_number (number_behind (behind l)) c.in-Ok.number (number_told l _ f.behind _ c.number_behind.ensures ∙ c.in-Ok.is) in
    let one = set-set c.args.self.now.given i (get_or c.args.self.now.given i None) (Some c.in-Ok.number) in
    rw n.1 (ap values_in one ∙ map-set value_in c.args.self.now.given i (Some c.in-Ok.number) ∙ rw is.0)

pub invariant_of-self-in-Ok : goal.invariant_of-self-in-Ok
invariant_of-self-in-Ok c =
    let l = c.args.line.now in
    let f = c.first_word.ensures in
    let g = c.args.self.now.given in
    let i = c.in-Some.entry in
    let is = answered_number (number_behind (behind l)) c.in-Ok.number (number_told l _ f.behind _ c.number_behind.ensures ∙ c.in-Ok.is) in
    let before : AllFit g = search rules in record {
      fit = rw (set-set g i (get_or g i None) (Some c.in-Ok.number)) (set_fits g i c.in-Ok.number is.1 before);
    }
