use Rattle.std.proofs.Common.{◌≡◌, ℕ, ◌<◌, get_or}
use Rattle.graph.specs.Channels.{blank}
use Rattle.graph.specs.Piece.{has}
use Rattle.graph.proofs.wiring.Wiring.border.Given as goal

abbrev pub invariant-loop-channel : goal.invariant-loop-channel
invariant-loop-channel l =
    (j : ℕ) → j < l.channel-index
    → has l.marks (get_or l.self.channels.now j blank).source ≡ has l.marks (get_or l.self.channels.now j blank).dest
