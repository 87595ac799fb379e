-- A turn of `read_all` joins what it read to what was there.
use Rattle.std.proofs.Common.{rules, ◌≡◌, ◌+◌, ◌-◌, ◌≤◌, ◌++◌, length, take, drop, ap, sym, ◌∙◌, subst}
use Rattle.std.specs.Io.KnownBytes.{Consumes}
use Rattle.std.proofs.KnownBytes.{Consumes-trans}
use Rattle.std.proofs.Math.Seq.{take-append-add, length-take-le}
use Rattle.std.proofs.lemmas.List.{take-append-le}
use Rattle.input.proofs.read_all.Goals as goal

pub loop-done-preserved : goal.loop-done-preserved
loop-done-preserved g c =
    let done = c.loop-done.done in
    let count = c.in-Ok.count in
    let front = take done c.loop-done.buffer in
    let read = c.read.new.buf in
    let behind = drop (length c.loop-done.buffer - done) (drop done c.loop-done.buffer) in
    let seam : length front ≡ done = length-take-le done c.loop-done.buffer c.loop-done.invariant.0 in
    let within : count ≤ length read = search rules in
    let joined : take (done + count) (front ++ (read ++ behind)) ≡ front ++ take count read =
    subst (λ n. take (n + count) (front ++ (read ++ behind)) ≡ front ++ take count read) seam
    (take-append-add front (read ++ behind) count ∙ ap (λ xs. front ++ xs) (take-append-le count read behind within)) in
    (search rules, subst (Consumes _ _) (sym joined) (Consumes-trans _ _ _ _ _ c.loop-done.invariant.1 c.in-Ok.ensures.bytes.0))
