-- `entry` meets its contract: one return for each refusal, and one with the entry.
-- Assumes nothing.
use Rattle.std.proofs.Common.{◌≡◌, ℕ, ◌+◌, ◌*◌, List, length, sym, ap, ◌∙◌, arith}
use Rattle.checks.specs.Checks.{Check, first}
use Rattle.checks.proofs.Checks.{refused, holds→first}
use Rattle.checks.proofs.Tests.{tests}
use Rattle.numbers.specs.Bytes.{u32_at}
use Rattle.shiftlist.specs.Lists.{shift_at, fetchable, found, fetch_of}
use Rattle.shiftlist.proofs.entry.Goals as goal

abbrev checks : List ℕ → ℕ → List Check
checks l i = fetchable (length l) (u32_at l 4) (u32_at l 0) i

answer : (l : List ℕ) (i k : ℕ) → first (checks l i) ≡ k → found k (shift_at l (8 + 16 * i)) ≡ fetch_of l i
answer l i k e = ap (λ q. found q (shift_at l (8 + 16 * i))) (sym e)

pub returns-then-len-lt8 : goal.returns-then-len-lt8
returns-then-len-lt8 c =
    let a = c.args in
    answer a.list.now a.number 1 (refused (checks a.list.now a.number) 0 (omega (arith, tests)))

pub returns-then-u32_at-ne8 : goal.returns-then-u32_at-ne8
returns-then-u32_at-ne8 c =
    let a = c.args in
    answer a.list.now a.number 2 (refused (checks a.list.now a.number) 1 (omega (arith, tests, c.u32_at.ensures)))

pub returns-then-len-count : goal.returns-then-len-count
returns-then-len-count c =
    let a = c.args in
    answer a.list.now a.number 3 (refused (checks a.list.now a.number) 2 (omega (arith, tests, c.u32_at.ensures, c.u32_at-count.ensures)))

pub returns-then-count-number : goal.returns-then-count-number
returns-then-count-number c =
    let a = c.args in
    answer a.list.now a.number 14 (refused (checks a.list.now a.number) 3 (omega (arith, tests, c.u32_at.ensures, c.u32_at-count.ensures)))

pub returns : goal.returns
returns c =
    let a = c.args in
    ap (found 0) c.shift_at.ensures
    ∙ answer a.list.now a.number 0 (holds→first (checks a.list.now a.number) (omega (arith, tests, c.u32_at.ensures, c.u32_at-count.ensures)))
