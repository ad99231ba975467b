-- What a firing of an actor does to its stores. Assumes nothing.
use Rattle.std.specs.Prelude.{◌≡◌, ℕ, ◌<◌, Bool, List, length, nat_le, All, sum_by}
use Rattle.model.specs.Net.{every}
use Rattle.runs.specs.Seen.{at}
use Rattle.leaps.specs.declared.list.Move.{Move}
use Rattle.leaps.specs.Stores.{rate_of, moves_of, moved}
use Rattle.leaps.specs.declared.moves.Moves.{Moves}

-- the moves of the actor, each at one of the stores; together they move its rate at each
pub record IsWalk (m : Moves) (a : ℕ) (ms : List Move) : Type 0 where
  pub moves : ms ≡ moves_of m.stores a
  pub within : All (λ v. v.store < 64) ms
  pub rates : (e : ℕ) → e < 64 → sum_by (moved e) ms ≡ rate_of m.stores a e

-- f has been done with the actor's rate at each of its stores
pub record Moved (f : ℕ → ℕ → ℕ) (m : Moves) (a : ℕ) (xs ys : List ℕ) : Type 0 where
  pub size : length ys ≡ 64
  pub are : (e : ℕ) → e < 64 → at ys e ≡ f (at xs e) (rate_of m.stores a e)

-- a store has the actor's rate there
abbrev pub has : Moves → ℕ → List ℕ → ℕ → Bool
has m a xs e = nat_le (rate_of m.stores a e) (at xs e)

-- and so has each store
abbrev pub has_all : Moves → ℕ → List ℕ → Bool
has_all m a xs = every (length m.stores) (has m a xs)
