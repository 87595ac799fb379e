-- Of the contracts, in the words of specs/Refusals.antt: a file, a record and a write are refused by the first number whose condition
-- holds, a refused write changes no byte, and a good file holds its table.
-- Assumes nothing.
use mathlib.Core.Path.{◌≡◌}
use Prim.Native.Nat.{◌+◌, ◌*◌}
use Rattle.checks.specs.Conditions.{FirstOf}
use Rattle.shift.specs.Refusals.{refusals}
use Rattle.shift.proofs.Refusals.{in_order}
use Rattle.stepfile.specs.Files.{refusal_of, refused_as, readings_of}
use Rattle.stepfile.specs.Writing.{written_as}
use Rattle.stepfile.specs.Refusals.{FileAnswers, FileHolds, WriteAnswers}
use Rattle.stepfile.proofs.record_refusal.Reads as record_refusal_reads
use Rattle.stepfile.proofs.refused.Reads as refused_reads
use Rattle.stepfile.proofs.table.Reads as table_reads
use Rattle.stepfile.proofs.write.write.Reads as write_reads
use Rattle.stepfile.proofs.FileRefusals.{file_answers}
use Rattle.stepfile.proofs.GoodFiles.{good_files_hold}
use Rattle.stepfile.proofs.WriteRefusals.{write_answers}

pub refused :
    (κs : _) (a : _) (r : _) (at : _) → refused_reads.Post κs a r at → FileAnswers a.0.now (refused_as r).number (refused_as r).rule
refused κs a r at p = rw p (file_answers a.0.now)

pub write :
    (κs : _) (a : _) (r : _) (at : _) → write_reads.Post κs a r at
    → WriteAnswers a.0 a.1.0.now a.1.1.0.now a.1.1.1.0.now (written_as r).number (written_as r).rule
    (written_as r).index (written_as r).length
    at.1.1.1.0.now
write κs a r at p = rw (p.0, p.1) (write_answers a.0 a.1.0.now a.1.1.0.now a.1.1.1.0.now)

pub record_refusal :
    (κs : _) (a : _) (r : _) (at : _) → record_refusal_reads.Post κs a r at
    → FirstOf (refusals a.0 a.1.0 (a.1.1.0 + 256 * a.1.1.1.0)) r
record_refusal κs a r at p = rw p (in_order a.0 a.1.0 (a.1.1.0 + 256 * a.1.1.1.0))

pub table :
    (κs : _) (a : _) (r : _) (at : _) → table_reads.Post κs a r at → (refusal_of a.0.now).number ≡ 0
    → FileHolds a.0.now r (readings_of a.0.now)
table κs a r at p z = rw p (good_files_hold a.0.now z)
