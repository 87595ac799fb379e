-- `End::go_on` meets its contract: the walk and the place by their functions, then `lay`.
-- Assumes nothing.
use mathlib.Core.Path.{◌≡◌, ap, ◌∙◌}
use Prim.Native.Nat.{◌-◌}
use Rattle.shiftlist.specs.declared.Shift.{Shift}
use Rattle.shiftlist.specs.declared.walk.Walk.{Walk}
use Rattle.shiftlist.specs.Lists.{shift_at}
use Rattle.shiftlist.specs.Walks.{unless_0, laid_size, laid_in}
use Rattle.shiftlist_extend.specs.Resuming.{place_of, resumed_on}
use Rattle.shiftlist_extend.proofs.End.go_on.Goals as goal

pub returns : goal.returns
returns c =
    let a = c.args in
    let l = a.list.now in
    let place = c.place.ensures in
    let walk : c.resumed-walk.result ≡ resumed_on a.self.state (shift_at l (a.self.held - 16)) =
    c.resumed-walk.ensures ∙ ap (λ (e : Shift). resumed_on a.self.state e) c.last.ensures
    in
    let laying = c.lay in record {
      value = laying.ensures.value
          ∙ ap (λ p. unless_0 (laid_size l p c.resumed-walk.result a.self.count a.records.now)) place
          ∙ ap (λ (w : Walk). unless_0 (laid_size l (place_of a.self.held a.self.state) w a.self.count a.records.now)) walk;
      list_after = laying.ensures.list_after
          ∙ ap (λ p. laid_in l p c.resumed-walk.result a.self.count a.records.now) place
          ∙ ap (λ (w : Walk). laid_in l (place_of a.self.held a.self.state) w a.self.count a.records.now) walk;
    }
