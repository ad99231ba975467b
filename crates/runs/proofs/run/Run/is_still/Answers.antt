use Rattle.std.proofs.Common.{length}
use Rattle.graph.specs.Meaning.{actors_in}
use Rattle.runs.specs.Seen.{state}
use Rattle.runs.proofs.Ticks.{still}
use Rattle.runs.proofs.run.Run.is_still.Goals as goal

pub returns : goal.returns
returns c = still (length (actors_in c.args.self.now.graph.now)) (state c.args.self.now) c.is_still.result (rw c.actors.ensures at c.is_still.ensures)
