use Rattle.std.proofs.Common.{refl, arith}
use Rattle.runs.specs.Seen.{state}
use Rattle.bench.specs.Sharing.{stand}
use Rattle.bench.specs.Calls.{look}
use Rattle.bench.proofs.Shared.{Means}
use Rattle.bench.proofs.Answered.{nobody, ticked_so}
use Rattle.bench.proofs.bench.Bench.tick.Given.{Over}
use Rattle.bench.proofs.bench.Bench.tick.Goals as goal

means : (g : Over) → Means g.P.Policy
means g = let met = g.met.P.Policy in record { sound = met.sound; ticked = met.ticked; laid = met.laid; cleared = met.cleared }

pub returns-clause-value : goal.returns-clause-value
returns-clause-value g c =
    let b = c.args.self.now in
    let z = c.later_tick-ended.new in
    rw c.tick-2.ensures (ticked_so g.P.Policy (means g) b.run.graph.now b.refused (look b) (stand z.run.tick (state z.run) z.policy) c.later_tick-ended.result
    (nobody b.refused _ _ refl c.in_ok-accepted.ensures) (omega arith) c.later_tick-ended.ensures.ticks)
