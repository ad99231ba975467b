-- What holds of every channel of a list. Assumes nothing.
use Rattle.std.specs.Prelude.{ℕ, ◌<◌, List, length, slice_index_or}
use Rattle.graph.specs.declared.channel.Channel.{Channel}

-- the channel that an unused place holds
abbrev pub blank : Channel
blank = record { source = 0; dest = 0; p = 0; q = 0; capacity = 0; tokens = 0 }

abbrev pub Every : (Channel → Type 0) → List Channel → Type 0
Every P cs = (k : ℕ) → k < length cs → P (slice_index_or cs k blank)

-- both ends are among the first `n` actors
abbrev pub Ends : ℕ → Channel → Type 0
Ends n c = (c.source < n) × (c.dest < n)
