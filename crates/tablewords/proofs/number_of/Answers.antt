-- `number_of` meets its contract: its digits, one after the other, while 16 bits hold the value.
-- Assumes nothing.
use Rattle.std.proofs.Common.{rules, tests}
use mathlib.Core.Path.{refl, sym, ap, ◌∙◌}
use Prim.Native.Nat.{◌+◌, ◌-◌, ◌*◌}
use native.Mathlib.Omega.{arith}
use lib.ListN.{get_or, drop}
use Rattle.std.proofs.lemmas.Iterator.{YieldsList-from_slice}
use Rattle.std.proofs.lemmas.Iterator.Search.{all_from_yields_List}
use Rattle.std.proofs.lemmas.Result.{err_from_is_err_and}
use Rattle.std.specs.Char.{is_ascii_digit}
use Rattle.tablewords.specs.Words.{value_from}
use Rattle.tablewords.proofs.NumberLaws.{grows, no_word, not_digits, all_tested, one_digit, held, not_held, no_more, too_large, fits}
use Rattle.tablewords.proofs.number_of.Goals as goal
use Rattle.tablewords.proofs.number_of.Goals.{then-is_empty-via-then-is_empty, then-is_empty-via-else-is_empty+then-not-all}

pub returns-then-is_empty : goal.returns-then-is_empty
returns-then-is_empty c =
    let word = c.args.word.now in
    elim c.then-is_empty.branch [
      | then-is_empty-via-then-is_empty w ↦ no_word word (sym c.is_empty.ensures ∙ w.if-is_empty.true)
      | then-is_empty-via-else-is_empty+then-not-all w ↦ not_digits word
          (sym (all_tested word)
          ∙ sym (all_from_yields_List is_ascii_digit _ _ w.all.result w.all.ensures.ran (YieldsList-from_slice word w.iter.ensures.rest)
          (λ x b q k. search (rules, tests)))
          ∙ w.if-not-all.true)
    ]

pub loop-byte-init : goal.loop-byte-init
loop-byte-init c =
    let word = c.args.word.now in record {
      some = sym c.is_empty.ensures ∙ c.if-is_empty.false;
      all =
          sym (all_tested word)
          ∙ sym (all_from_yields_List is_ascii_digit _ _ c.all.result c.all.ensures.ran (YieldsList-from_slice word c.iter.ensures.rest)
          (λ x b q k. search (rules, tests)))
          ∙ c.if-not-all.false;
      value = refl;
      fits = omega arith;
    }

pub loop-byte-preserved : goal.loop-byte-preserved
loop-byte-preserved c =
    let l = c.loop-byte in
    let word = c.args.word.now in
    let longer = l.value * 10 + (get_or word l.byte-index 0 - 48) in
    let is = held longer _ (rw c.with_digit.ensures at (sym c.ok_or.ensures.value ∙ c.in_ok-value.was)) in record {
      some = l.invariant.some;
      all = l.invariant.all;
      value =
          ap (λ v. value_from v (drop (l.byte-index + 1) word)) is.0
          ∙ sym (one_digit word l.value l.byte-index c.loop-byte-test.true)
          ∙ l.invariant.value;
      fits = is.1;
    }

pub returns-in_err-value : goal.returns-in_err-value
returns-in_err-value c =
    let l = c.loop-byte in
    let word = c.args.word.now in
    let longer = l.value * 10 + (get_or word l.byte-index 0 - 48) in
    let not = not_held longer _ (rw c.with_digit.ensures at (sym c.ok_or.ensures.value ∙ c.in_err-value.was)) in
    let all = one_digit word l.value l.byte-index c.loop-byte-test.true in
    let more = grows longer (drop (l.byte-index + 1) word) in
    let p = err_from_is_err_and c.from_residual.result c.from_residual.ensures.1 in
    rw (p.1, p.2, sym not.1) (too_large word l.invariant.some l.invariant.all (omega (arith, not.0, more, all, l.invariant.value)))

pub returns : goal.returns
returns c =
    let l = c.loop-byte in
    let word = c.args.word.now in
    let is = sym (no_more word l.value l.byte-index c.loop-byte-test.false) ∙ l.invariant.value in
    rw is (fits word l.invariant.some l.invariant.all (omega (arith, is, l.invariant.fits)))
