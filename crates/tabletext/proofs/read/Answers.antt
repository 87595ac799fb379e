-- `read` meets its contract: line by line, as the text is cut at its line feeds.
-- Assumes nothing.
use Rattle.std.proofs.Common.{rules, tests, of_calls}
use mathlib.Core.Path.{refl, sym, ap, ◌∙◌}
use native.Mathlib.Omega.{arith}
use lib.Dec.{eqb}
use lib.ListN.{length, get_or}
use Prim.Native.Nat.{◌+◌, ◌<◌}
use Rattle.std.proofs.lemmas.List.{length_push}
use Rattle.tabletext.specs.Answers.{number_in, entry_of, values_in, Says}
use Rattle.tabletext.proofs.AnswerLaws.{has_number}
use native.Mathlib.Numerals.{add-one}
use mathlib.Core.Path.{◌≡◌}
use mathlib.Core.Bool.{true, false}
use Rattle.std.specs.Result.{is_ok}
use Rattle.std.proofs.lemmas.Result.{err_from_is_err_and}
use Rattle.std.specs.List.{slice_split}
use Rattle.std.proofs.lemmas.Iterator.Splits.{YieldsList-from_slice_split}
use Rattle.tabletext.specs.Texts.{line_of, fault_of, entry_in, nothing_given, read_from, read_of}
use Rattle.tabletext.proofs.LineLaws.{when_ok, when_err, turn, end, cut, few_lines, wrong_line, good_line, no_more, one_missing, none_missing}
use Rattle.tabletext.proofs.read.Goals as goal

pub loop-line-init : goal.loop-line-init
unfolding read_of
loop-line-init c = record {
  can = search of_calls;
  finite = tt;
  count = refl;
  said = ap (read_from 0 nothing_given) (sym (cut c.args.text.now));
}

pub overflow_add-lines : goal.overflow_add-lines
overflow_add-lines c =
    let text = c.args.text.now in
    let l = c.loop-line in
    let n = c.next in
    let line = c.in-Some.line in
    let here = turn l.yielded l.line-iterator l.yielded_by n.result n.new.self n.ensures.steps line c.in-Some.is
    (YieldsList-from_slice_split _ (λ b. eqb b 10) text (cc) (cc) (cc) (λ x b q k. search (rules, tests))) in
    omega (arith, here.0, ap length (cut text), few_lines text, l.invariant.count)

pub loop-line-preserved : goal.loop-line-preserved
loop-line-preserved c =
    let text = c.args.text.now in
    let l = c.loop-line in
    let n = c.next in
    let line = c.in-Some.line in
    let here = turn l.yielded l.line-iterator l.yielded_by n.result n.new.self n.ensures.steps line c.in-Some.is
    (YieldsList-from_slice_split _ (λ b. eqb b 10) text (cc) (cc) (cc) (λ x b q k. search (rules, tests))) in
    let ls = slice_split (λ b. eqb b 10) text in
    let below : l.lines < length ls = omega (arith, here.0, l.invariant.count) in
    let there : line.now ≡ get_or ls l.lines line.now = here.1 ∙ ap (λ i. get_or ls i line.now) (sym l.invariant.count) in
    let ok : is_ok c.take.result ≡ true = sym c.map_err.ensures.variant ∙ ap is_ok c.in_ok-map_err.was in
    let none = when_ok c.take.result ok c.take.ensures.ok in
    let after = when_ok c.take.result ok c.take.ensures.given_after in record {
      can = search of_calls;
      finite = tt;
      count = rw (add-one l.lines, l.invariant.count) (sym (length_push l.yielded line ∙ add-one (length l.yielded)));
      said = l.invariant.said ∙ good_line l.lines (values_in l.entries.given) ls line.now below there none ∙ rw (add-one l.lines, after);
    }

pub returns-in_err-map_err : goal.returns-in_err-map_err
returns-in_err-map_err c =
    let text = c.args.text.now in
    let l = c.loop-line in
    let n = c.next in
    let line = c.in-Some.line in
    let here = turn l.yielded l.line-iterator l.yielded_by n.result n.new.self n.ensures.steps line c.in-Some.is
    (YieldsList-from_slice_split _ (λ b. eqb b 10) text (cc) (cc) (cc) (λ x b q k. search (rules, tests))) in
    let ls = slice_split (λ b. eqb b 10) text in
    let below : l.lines < length ls = omega (arith, here.0, l.invariant.count) in
    let there : line.now ≡ get_or ls l.lines line.now = here.1 ∙ ap (λ i. get_or ls i line.now) (sym l.invariant.count) in
    let err : is_ok c.take.result ≡ false = sym c.map_err.ensures.variant ∙ ap is_ok c.in_err-map_err.was in
    let t = when_err c.take.result err in
    let number : number_in t.0 ≡ fault_of (values_in l.entries.given) (line_of line.now) = rw t.1 at c.take.ensures.number in
    let entry : entry_of t.0 ≡ entry_in (line_of line.now) = rw t.1 at c.take.ensures.entry in
    let m = err_from_is_err_and c.map_err.result (rw t.1 at c.map_err.ensures.cases) in
    let p = err_from_is_err_and c.from_residual.result c.from_residual.ensures.1 in
    let fault : p.0 ≡ record { line = l.lines + 1; kind = t.0 } =
    let told = p.2 in let mapped = m.1 in let made = m.2 in let was = c.in_err-map_err.was in cc in
    let whole = wrong_line l.lines (values_in l.entries.given) ls line.now below there (λ z. has_number t.0 (number ∙ z)) in
    rw (p.1, fault) (rw (number, entry, add-one l.lines) (sym (l.invariant.said ∙ whole)))

pub returns-in-Some-missing : goal.returns-in-Some-missing
returns-in-Some-missing c =
    let text = c.args.text.now in
    let l = c.loop-line in
    let n = c.next in
    let all = end l.yielded l.line-iterator l.yielded_by n.result n.new.self n.ensures.steps c.in-None.is
    (YieldsList-from_slice_split _ (λ b. eqb b 10) text (cc) (cc) (cc) (λ x b q k. search (rules, tests))) in
    let whole = no_more l.lines (values_in l.entries.given) (slice_split (λ b. eqb b 10) text) (omega (arith, all, l.invariant.count)) in
    one_missing l.lines (values_in l.entries.given) c.in-Some-missing.entry (sym c.missing.ensures ∙ c.in-Some-missing.is)
    ∙ sym (l.invariant.said ∙ whole)

pub returns-in-None-missing : goal.returns-in-None-missing
returns-in-None-missing c =
    let text = c.args.text.now in
    let l = c.loop-line in
    let n = c.next in
    let all = end l.yielded l.line-iterator l.yielded_by n.result n.new.self n.ensures.steps c.in-None.is
    (YieldsList-from_slice_split _ (λ b. eqb b 10) text (cc) (cc) (cc) (λ x b q k. search (rules, tests))) in
    let whole = no_more l.lines (values_in l.entries.given) (slice_split (λ b. eqb b 10) text) (omega (arith, all, l.invariant.count)) in
    ap Says c.table.ensures
    ∙ none_missing l.lines (values_in l.entries.given) (sym c.missing.ensures ∙ c.in-None-missing.is)
    ∙ sym (l.invariant.said ∙ whole)
