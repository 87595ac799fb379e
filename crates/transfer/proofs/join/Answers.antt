-- `join` meets its contract: each early return has the number of the first check that fails, and what is copied is the rest of an
-- accepted part behind the bytes held.
-- Assumes nothing.
use mathlib.Core.Path.{◌≡◌, refl, sym, ◌∙◌}
use mathlib.Core.Bool.{true}
use native.Mathlib.Omega.{arith}
use Rattle.checks.proofs.Tests.{tests}
use lib.ListN.{take, drop}
use Rattle.transfer.specs.Join.{agree}
use Rattle.transfer.proofs.CutLaws.{drop-take}
use Rattle.transfer.proofs.JoinLaws.{refused_at, accepted, inside, beyond}
use Rattle.transfer.proofs.join.Goals as goal

pub returns-then-not-agrees : goal.returns-then-not-agrees
returns-then-not-agrees c =
    let a = c.args in
    let overlap = drop-take a.offset a.held a.buffer.now in
    let both = refused_at a.buffer.now a.held a.offset a.part.now 3 refl (
      omega (arith, tests),
      (omega (arith, tests), (omega (arith, tests), rw (overlap, ← c.agrees.ensures, c.if-not-agrees.true) tt)),
    ) in record {
      value = both.0;
      buffer_after = both.1;
    }

pub returns-then-end-held : goal.returns-then-end-held
returns-then-end-held c =
    let a = c.args in
    let overlap = drop-take a.offset a.held a.buffer.now in
    let agrees : agree (drop a.offset (take a.held a.buffer.now)) a.part.now ≡ true = rw overlap (sym c.agrees.ensures ∙ c.if-not-agrees.false) in
    let both = inside a.buffer.now a.held a.offset a.part.now (omega arith) (omega arith)
    (accepted a.buffer.now a.held a.offset a.part.now (omega arith) (omega arith) (omega arith) agrees) in record {
      value = both.0;
      buffer_after = both.1;
    }

pub returns : goal.returns
returns c =
    let a = c.args in
    let overlap = drop-take a.offset a.held a.buffer.now in
    let agrees : agree (drop a.offset (take a.held a.buffer.now)) a.part.now ≡ true = rw overlap (sym c.agrees.ensures ∙ c.if-not-agrees.false) in
    let copied = c.copy_from_slice in
    let both = beyond a.buffer.now a.held a.offset a.part.now (omega arith) (omega arith)
    (accepted a.buffer.now a.held a.offset a.part.now (omega arith) (omega arith) (omega arith) agrees)
    copied.new.self copied.ensures.after in record {
      value = both.0;
      buffer_after = both.1;
    }
