-- So far `bytes` has laid those that it has passed.
use Rattle.std.proofs.Common.{◌≡◌, take}
use Rattle.columns.specs.Laid.{owed, Lays}
use Rattle.columns.proofs.page.Page.bytes.Given as goal

abbrev pub invariant-loop-byte : goal.invariant-loop-byte
invariant-loop-byte g l = Lays g.W.Write.contents l.initial.self l.self (take l.byte-index l.bytes) × (owed l.self ≡ owed l.initial.self)
