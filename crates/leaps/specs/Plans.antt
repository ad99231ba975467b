-- A graph's channels as the moves of its actors, and which actors an end may make ready. Assumes nothing.
--
-- other     the other end of a channel
-- actor_at  the actor at an end
-- rate_at   its rate there
-- store_of  both, as a store
-- MovesOf   the stores of channels: tokens move at one end, free places at the other
-- wakes_at  a mark of a table of rows of marks
-- Wakes     an end of an actor may make itself ready, and the actors at the other ends of its channels
-- PlanIs    the plan of so many actors with these channels
use Rattle.std.specs.Prelude.{◌≡◌, ℕ, ◌+◌, ◌<◌, ◌≤◌, Bool, true, ◌⊎◌, Some, List, [], length, slice_index_or}
use Rattle.graph.specs.declared.channel.Channel.{Channel}
use Rattle.runs.specs.Loops.{flag}
use Rattle.runs.specs.Seen.{channel_at}
use Rattle.leaps.specs.declared.store.Store.{Store}
use Rattle.leaps.specs.declared.plan.Plan.{Plan}
use Rattle.leaps.specs.declared.planning.End.{End}
use Rattle.leaps.specs.declared.planning.End.TheVariants.{Source, Dest}
use Rattle.leaps.specs.Stores.{store_at}

abbrev pub other : End → End
other Source = Dest
other Dest = Source

abbrev pub actor_at : End → Channel → ℕ
actor_at Source c = c.source
actor_at Dest c = c.dest

abbrev pub rate_at : End → Channel → ℕ
rate_at Source c = c.p
rate_at Dest c = c.q

abbrev pub store_of : End → Channel → Store
store_of e c = record { owner = Some (actor_at e c); rate = rate_at e c }

-- of the channels below i
pub record MovesOf (i : ℕ) (e : End) (cs : List Channel) (stores : List Store) : Type 0 where
  pub near : (c : ℕ) → c < i → store_at stores c ≡ store_of e (channel_at cs c)
  pub far : (c : ℕ) → c < i → store_at stores (32 + c) ≡ store_of (other e) (channel_at cs c)
  pub only : (k : ℕ) → k < 64 → (a : ℕ) → (store_at stores k).owner ≡ Some a → (k < i) ⊎ ((32 ≤ k) × (k < 32 + i))

abbrev pub wakes_at : List (List Bool) → ℕ → ℕ → Bool
wakes_at wakes a b = flag (slice_index_or wakes a []) b

-- of the actors below k, and of the channels below i
pub record Wakes (k i : ℕ) (cs : List Channel) (wakes : List (List Bool)) : Type 0 where
  pub itself : (a : ℕ) → a < k → wakes_at wakes a a ≡ true
  pub along : (c : ℕ) → c < i → wakes_at wakes (channel_at cs c).source (channel_at cs c).dest ≡ true
  pub back : (c : ℕ) → c < i → wakes_at wakes (channel_at cs c).dest (channel_at cs c).source ≡ true

pub record PlanIs (n : ℕ) (cs : List Channel) (p : Plan) : Type 0 where
  pub actors : p.actors ≡ n
  pub takes : MovesOf (length cs) Dest cs p.takes.stores
  pub puts : MovesOf (length cs) Source cs p.puts.stores
  pub wakes : Wakes 16 (length cs) cs p.wakes
