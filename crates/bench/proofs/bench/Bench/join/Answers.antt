use Rattle.runs.specs.Seen.{state}
use Rattle.bench.specs.Sharing.{stand}
use Rattle.bench.proofs.Shared.{Means}
use Rattle.bench.proofs.Answered.{joined_so}
use Rattle.bench.proofs.bench.Bench.join.Given.{Over}
use Rattle.bench.proofs.bench.Bench.join.Goals as goal

means : (g : Over) → Means g.P.Policy
means g = let met = g.met.P.Policy in record { sound = met.sound; ticked = met.ticked; laid = met.laid; cleared = met.cleared }

pub returns-clause-kept : goal.returns-clause-kept
returns-clause-kept g c =
    let run = c.new-run.result in
    joined_so g.P.Policy (means g) c.args.graph.now c.args.policy (stand run.tick (state run) c.tick_zero.new.policy) (rw c.new-run.ensures.graph at c.tick_zero.ensures.begins)
