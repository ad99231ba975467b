-- What stands, by channel and by actor, as the model has it. Assumes nothing.
--
-- none, idle   where there is no channel, or no actor
-- held, doing  what a channel holds and an actor does
-- state_of     tokens and free places, ticks left and firings ended
-- Vacant       nothing stands past the channels and actors that there are
use Rattle.std.specs.Prelude.{◌≡◌, ℕ, ◌≤◌, slice_index_or}
use Rattle.model.specs.Net.{Net, State}
use Rattle.runs.specs.declared.firing.Firing.TheVariants.{Idle}
use Rattle.runs.specs.declared.standing.Doing.{Doing}
use Rattle.runs.specs.declared.standing.Held.{Held}
use Rattle.runs.specs.declared.standing.Standing.{Standing}
use Rattle.runs.specs.Firings.{left_of}

abbrev pub none : Held
none = record { tokens = 0; free = 0 }

abbrev pub idle : Doing
idle = record { firing = Idle; ended = 0 }

abbrev pub held : Standing → ℕ → Held
held s c = slice_index_or s.held c none

abbrev pub doing : Standing → ℕ → Doing
doing s a = slice_index_or s.doing a idle

abbrev pub state_of : Standing → State
state_of s = record {
  tokens = λ c. (held s c).tokens;
  free = λ c. (held s c).free;
  left = λ a. left_of (doing s a).firing;
  ended = λ a. (doing s a).ended;
}

abbrev pub Vacant : Net → State → Type 0
Vacant n s =
    ((c : ℕ) → n.channels ≤ c → (s.tokens c ≡ 0) × (s.free c ≡ 0))
    × ((a : ℕ) → n.actors ≤ a → (s.left a ≡ 0) × (s.ended a ≡ 0))
