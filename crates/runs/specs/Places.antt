-- What becomes of the places of a channel. Assumes nothing.
use Rattle.std.specs.Prelude.{◌≡◌, ℕ, ◌+◌, ◌<◌, ◌≤◌}
use Rattle.model.specs.Net.{Net, State, when, busy}

-- filled, free, claimed by a firing of the source, and in use by one of the destination
abbrev pub places : Net → State → ℕ → ℕ
places n s c = s.tokens c + s.free c + when (busy s (n.source c)) (n.p c) + when (busy s (n.dest c)) (n.q c)

-- these are all the places that each channel has
abbrev pub Whole : Net → State → Type 0
Whole n s = (c : ℕ) → c < n.channels → places n s c ≡ n.capacity c

-- no channel has more than its places
abbrev pub Within : Net → State → Type 0
Within n s = (c : ℕ) → c < n.channels → places n s c ≤ n.capacity c
