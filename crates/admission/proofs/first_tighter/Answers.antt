-- `first_tighter` meets its contract: it looks through the twenty-two entries in their order.
-- Assumes nothing.
use mathlib.Core.Path.{refl, sym, ◌∙◌}
use Rattle.std.proofs.Common.{rules}
use Rattle.std.proofs.lemmas.Iterator.{YieldsList-from_range}
use Rattle.std.proofs.lemmas.Iterator.Search.{find_from_yields_List}
use Rattle.std.proofs.lemmas.Iterator.Adapters.{option_map_id}
use Rattle.admission.specs.FirstTighter.{tighter_at}
use Rattle.admission.proofs.FirstLaws.{found}
use Rattle.admission.proofs.first_tighter.Goals as goal

pub returns : goal.returns
returns c =
    let test = tighter_at c.args.old c.args.new in
    let first = sym (option_map_id c.find.result)
    ∙ find_from_yields_List test _ _ _ c.find.ensures.ran (YieldsList-from_range 0 22 22 refl refl) (λ x b q k. search rules) in
    rw (c.unwrap_or.ensures, first) (found test 0 22)
