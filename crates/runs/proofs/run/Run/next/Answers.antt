use Rattle.std.proofs.Common.{length}
use Rattle.graph.specs.Meaning.{actors_in, channels_in}
use Rattle.runs.specs.Seen.{state}
use Rattle.runs.proofs.Graphs.{graph_fitting}
use Rattle.runs.proofs.Ticks.{next_follows}
use Rattle.runs.proofs.run.Run.next.Goals as goal

pub returns-clause-after : goal.returns-clause-after
returns-clause-after c =
    let r = c.args.self.now in
    let g = r.graph.now in
    next_follows (length (actors_in g)) (channels_in g) (graph_fitting g) c.one_less-left.result r.times (state r) (state c.step.new.self)
    (rw c.actors.ensures at c.one_less-left.ensures.value) c.step.ensures.after
