use Rattle.graph.proofs.Ways.{marked_apart}
use Rattle.graph.proofs.wiring.Wiring.apart.Goals as goal

pub returns : goal.returns
returns c = marked_apart _ _ _ c.joined.ensures c.unmarked.result c.unmarked.ensures
