use Rattle.bench.proofs.Turns.{only_run}
use Rattle.bench.proofs.worked.worked_ring.Goals as goal

pub returns-clause-only : goal.returns-clause-only
returns-clause-only c = only_run
