-- When two states agree, where the graph has channels and actors. Assumes nothing.
use Rattle.std.specs.Prelude.{◌≡◌, ℕ, ◌<◌}
use Rattle.model.specs.Net.{Net, State}

-- in tokens and ticks left
pub record Same (n : Net) (s z : State) : Type 0 where
  pub tokens : (c : ℕ) → c < n.channels → s.tokens c ≡ z.tokens c
  pub left : (a : ℕ) → a < n.actors → s.left a ≡ z.left a

-- in free places too
pub record Alike (n : Net) (s z : State) : Type 0 where
  pub tokens : (c : ℕ) → c < n.channels → s.tokens c ≡ z.tokens c
  pub free : (c : ℕ) → c < n.channels → s.free c ≡ z.free c
  pub left : (a : ℕ) → a < n.actors → s.left a ≡ z.left a

-- and in the firings ended
pub record Matches (n : Net) (s z : State) : Type 0 where
  pub alike : Alike n s z
  pub ended : (a : ℕ) → a < n.actors → s.ended a ≡ z.ended a
