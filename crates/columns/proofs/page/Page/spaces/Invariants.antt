-- So far `spaces` has laid as many as it has counted.
use Rattle.std.proofs.Common.{◌≡◌, replicate}
use Rattle.columns.specs.Laid.{owed, Lays}
use Rattle.columns.proofs.page.Page.spaces.Given as goal

abbrev pub invariant-loop : goal.invariant-loop
invariant-loop g l = Lays g.W.Write.contents l.initial.self l.self (replicate l.counter 32) × (owed l.self ≡ owed l.initial.self)
