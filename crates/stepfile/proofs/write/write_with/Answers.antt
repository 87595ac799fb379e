-- `write_with` meets its contract: one return for each refusal, which leaves the buffer, and one with the file in it.
-- Assumes nothing.
use mathlib.Core.Path.{◌≡◌, sym, ap, ◌∙◌}
use Prim.Native.Nat.{◌≤◌}
use native.Mathlib.Omega.{arith}
use lib.ListN.{length}
use Rattle.std.proofs.Common.{rules, Err}
use Rattle.checks.proofs.Tests.{tests, eq→eqb, ne→neqb}
use Rattle.checks.proofs.Checks.{refused, holds→first}
use Rattle.limits.proofs.NumberLaws.{some_number}
use Rattle.stepfile.specs.declared.write.Unwritten.{Unwritten}
use Rattle.limits.specs.Rules.{broken_rule}
use Rattle.stepfile.specs.Files.{most_records}
use Rattle.stepfile.specs.Writing.{Wrong, entries_for, file_of, size_of, writable, refused_with, written_as}
use Rattle.stepfile.proofs.EntryLaws.{most_between}
use Rattle.stepfile.proofs.WritingLaws.{size}
use Rattle.numbers.proofs.StoreLaws.{at_start}
use Rattle.stepfile.proofs.WriteLaws.{at_lists, at_named, at_room, written, amounts_small}
use Rattle.stepfile.proofs.write.write_with.Goals as goal

pub returns-in_err-admit : goal.returns-in_err-admit
returns-in_err-admit c =
    let a = c.args in
    let m = c.most_records.ensures ∙ ap most_records c.entries_for-entries.ensures in
    let x = c.in_err-admit.field-0.0 in
    let r = c.in_err-admit.ensures in
    let n = refused (writable a.table a.codes.now a.amounts.now) 2
    (omega (arith, tests), (omega (arith, tests), ne→neqb (broken_rule a.table) 0 (λ z. some_number x (r ∙ z)))) in
    let k = at_lists a.table a.codes.now a.amounts.now a.out.now 4 n (λ q. omega arith) in
    let same : c.from_residual.result ≡ Err (Unwritten.Table x) = search rules in record {
      value = ap written_as same ∙ ap (λ q. refused_with 4 q 0) r ∙ k.0;
      out_after = k.1;
    }

pub returns-in_err-all_read : goal.returns-in_err-all_read
returns-in_err-all_read c =
    let a = c.args in
    let m = c.most_records.ensures ∙ ap most_records c.entries_for-entries.ensures in
    let r = c.in_ok-admit.ensures in
    let n = holds→first (writable a.table a.codes.now a.amounts.now)
    (omega (arith, tests), (omega (arith, tests), (eq→eqb (broken_rule a.table) 0 (sym r), tt))) in
    let k = at_named a.table a.codes.now a.amounts.now a.out.now n c.in_err-all_read.field-0.0 c.in_err-all_read.ensures in
    let same : c.from_residual-in_err-all_read.result ≡ Err c.in_err-all_read.field-0.0 = search rules in record {
      value = ap written_as same ∙ k.0;
      out_after = k.1;
    }

pub returns-then-out-size : goal.returns-then-out-size
returns-then-out-size c =
    let a = c.args in
    let m = c.most_records.ensures ∙ ap most_records c.entries_for-entries.ensures in
    let r = c.in_ok-admit.ensures in
    let n = holds→first (writable a.table a.codes.now a.amounts.now)
    (omega (arith, tests), (omega (arith, tests), (eq→eqb (broken_rule a.table) 0 (sym r), tt))) in
    let z = ap (λ (q : Wrong). q.number) c.in_ok-all_read.ensures in
    let k = at_room a.table a.codes.now a.amounts.now a.out.now n z (omega arith) in record {
      value = k.0;
      out_after = k.1;
    }

pub put_file-requires : goal.put_file-requires
put_file-requires c =
    let a = c.args in
    let z = ap (λ (q : Wrong). q.number) c.in_ok-all_read.ensures in record {
      codes_len = omega (arith, most_between c.entries_for-entries.result);
      codes_in_bounds = omega arith;
      by_index = amounts_small 0 a.codes.now a.amounts.now (omega arith) z;
    }

pub returns : goal.returns
returns c =
    let a = c.args in
    let m = c.most_records.ensures ∙ ap most_records c.entries_for-entries.ensures in
    let r = c.in_ok-admit.ensures in
    let n = holds→first (writable a.table a.codes.now a.amounts.now)
    (omega (arith, tests), (omega (arith, tests), (eq→eqb (broken_rule a.table) 0 (sym r), tt))) in
    let z = ap (λ (q : Wrong). q.number) c.in_ok-all_read.ensures in
    let room : size_of a.table a.codes.now ≤ length a.out.now = omega arith in
    let k = written a.table a.codes.now a.amounts.now a.out.now n z room in
    let file = file_of a.table a.codes.now a.amounts.now in
    let long = size (entries_for a.table) a.codes.now a.amounts.now (omega arith) in record {
      value = ap (λ m. record { number = 0; rule = 0; index = 0; length = m }) (omega arith) ∙ k.0;
      out_after = c.put_file.ensures ∙ at_start a.out.now file (size_of a.table a.codes.now) long room ∙ k.1;
    }
