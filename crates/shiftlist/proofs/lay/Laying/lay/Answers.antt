-- `Laying::lay` meets its contract. The loop's invariant: what is still to be made, laid on what is laid, is the whole.
-- Assumes nothing.
use Rattle.std.proofs.Common.{◌≡◌, ◌+◌, [], true, drop, sym, ap, ◌∙◌, subst, arith}
use Rattle.shiftlist.specs.Walks.{coded_all, in_hand, with, laid_by}
use Rattle.shiftlist.proofs.LayLaws.{code_at, amount_at, Left, at_end, made, open_on, tick_made, still_made, takes_made, other_is, last_goes, one_laid}
use Rattle.shiftlist.proofs.lay.Laying.lay.Goals as goal
use Rattle.shiftlist.proofs.lay.Laying.lay.Goals.{then-code-eq12, else-code-eq12+then-not-is_still+then-takes_on, else-code-eq12+then-not-is_still+else-takes_on+then-ends, else-code-eq12+then-not-is_still+else-takes_on+else-ends, else-code-eq12+else-not-is_still}

pub loop-i-preserved : goal.loop-i-preserved
loop-i-preserved c =
    let l = c.loop-i in
    let test = c.loop-i-test.true in
    let a = c.args in
    let rs = a.self.records.now in
    let n = a.self.index + l.i in
    let m = a.self.index + (l.i + 1) in
    let next : n + 1 ≡ m = omega arith in
    let so_far = Left a.list.now a.self.from (laid_by a.self.walk a.self.index (coded_all rs)) in
    elim c.if-code-eq12.branch [
      | then-code-eq12 w ↦
          (let left = tick_made rs l.i test l.walk n m next w.if-code-eq12.true _ (omega (arith, w.from.ensures, w.from_le_bytes-amount.ensures)) in
          rw (w.list-is, w.end-is, w.walk-is) (omega arith, subst (so_far l.list l.end) left l.invariant.1))
      | else-code-eq12+then-not-is_still+then-takes_on w ↦
          (let left = takes_made rs l.i test l.walk n m next (sym w.takes_on.ensures ∙ w.if-takes_on.true) _ w.next_of.ensures in
          rw (w.list-is, w.end-is, w.walk-is) (omega arith, subst (so_far l.list l.end) left l.invariant.1))
      | else-code-eq12+then-not-is_still+else-takes_on+then-ends w ↦
          (let v = w.after-next.result in
          let stepped = w.after-next.ensures ∙ last_goes l.walk n n (code_at rs l.i) ∙ other_is l.walk n (code_at rs l.i) (amount_at rs l.i) w.if-code-eq12.false in
          let left =
          made rs l.i test l.walk n m next v stepped
          ∙ ap (λ b. with b (in_hand v) (laid_by v m (coded_all (drop (l.i + 1) rs)))) (sym w.ends.ensures ∙ w.if-ends.true)
          in
          let put = w.put_entry.ensures in
          rw (w.list-is, w.end-is, w.walk-is)
          (omega arith, one_laid a.list.now a.self.from _ l.list l.end true (in_hand v) _ _ _ (omega arith) put (subst (so_far l.list l.end) left l.invariant.1)))
      | else-code-eq12+then-not-is_still+else-takes_on+else-ends w ↦
          (let v = w.after-next.result in
          let stepped = w.after-next.ensures ∙ last_goes l.walk n n (code_at rs l.i) ∙ other_is l.walk n (code_at rs l.i) (amount_at rs l.i) w.if-code-eq12.false in
          let left = open_on rs l.i test l.walk n m next v stepped (sym w.ends.ensures ∙ w.if-ends.false) in
          rw (w.list-is, w.end-is, w.walk-is) (omega arith, subst (so_far l.list l.end) left l.invariant.1))
      | else-code-eq12+else-not-is_still w ↦
          (let left = still_made rs l.i test l.walk n m next (sym w.is_still.ensures ∙ w.if-not-is_still.false) in
          rw (w.list-is, w.end-is, w.walk-is) (omega arith, subst (so_far l.list l.end) left l.invariant.1))
    ]

pub returns-then-is_unfinished-clause-list_after : goal.returns-then-is_unfinished-clause-list_after
returns-then-is_unfinished-clause-list_after c =
    let l = c.loop-i in
    let a = c.args in
    let rs = a.self.records.now in
    let u = sym c.is_unfinished.ensures ∙ c.if-is_unfinished.true in
    let end = at_end rs l.i l.walk (a.self.index + l.i) (omega (arith, c.loop-i-test.false)) ∙ ap (λ b. with b (in_hand l.walk) []) u in
    let whole = subst (Left a.list.now a.self.from (laid_by a.self.walk a.self.index (coded_all rs)) l.list l.end) end l.invariant.1 in
    c.put_entry-then-is_unfinished.ensures ∙ sym whole.1
