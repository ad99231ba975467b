use Rattle.std.proofs.Common.{refl}
use Rattle.runs.specs.Seen.{state}
use Rattle.bench.specs.Sharing.{stand}
use Rattle.bench.specs.Calls.{look}
use Rattle.bench.proofs.Shared.{Means}
use Rattle.bench.proofs.Answered.{nobody, restarted_so}
use Rattle.bench.proofs.bench.Bench.restart.Given.{Over}
use Rattle.bench.proofs.bench.Bench.restart.Goals as goal

means : (g : Over) → Means g.P.Policy
means g = let met = g.met.P.Policy in record { sound = met.sound; ticked = met.ticked; laid = met.laid; cleared = met.cleared }

pub returns-clause-value : goal.returns-clause-value
returns-clause-value g c =
    let b = c.args.self.now in
    let z = c.restart.new.self in
    restarted_so g.P.Policy (means g) b.run.graph.now b.refused (look b) (stand z.tick (state z) c.tick_zero.new.policy) tt
    (nobody b.refused _ _ refl c.in_ok-accepted.ensures) (rw c.restart.ensures.graph at c.tick_zero.ensures.begins)
