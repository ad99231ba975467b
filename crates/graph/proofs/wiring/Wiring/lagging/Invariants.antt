use Rattle.std.proofs.Common.{ℕ, ◌<◌, get_or}
use Rattle.graph.specs.Channels.{blank}
use Rattle.graph.specs.Counts.{Balanced, at}
use Rattle.graph.proofs.wiring.Wiring.lagging.Given as goal

abbrev pub invariant-loop-channel : goal.invariant-loop-channel
invariant-loop-channel l = (j : ℕ) → j < l.channel-index → Balanced (at l.counts) (get_or l.self.channels.now j blank)
