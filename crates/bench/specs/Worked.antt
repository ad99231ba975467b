-- A run on paper that a ring shares: A (2) to B (3), 1:1, with capacity 2. Assumes nothing.
--
-- graph     the graph
-- works     its times, which are the ring's works
-- Turning   a state, with the lefts of a ring, whose turn it is or was last, and whether it goes on
-- less      the lefts after a tick for the one that is served
-- laid      the lefts when those that start are laid
-- goes      the starts of a tick, with their lays
-- first     tick 0, of a new ring: the last actor's turn has just ended
-- moved     a later tick, at which that actor is served, or none
-- onward    a later tick, at which the ring says who is served
-- shared    the run, tick by tick
-- endings   the ticks up to some tick at which an actor ends a firing
-- NewRing   a ring of these works, the last actor's turn just ended
-- OnlyRun   whatever goes by tick 0 and later ticks from such a ring has the counts of that run
use Rattle.std.specs.Prelude.{◌≡◌, ℕ, zero, suc, ◌-◌, ◌<◌, Bool, false, cond, List, [], ◌∷◌, ◌++◌, length, Some, None, Option, ◌==◌, nat_lt, slice_index}
use Rattle.policy.specs.Works.{works_of}
use Rattle.policy.specs.Turns.{next}
use Rattle.policy.specs.declared.ring.Ring.{Ring}
use Rattle.policy.specs.contracts.ring.RingPolicy.TheImpl.{ghosts}
use Rattle.model.specs.Net.{Net, State, when, ready, start, finish, initial_state}
use Rattle.model.specs.Examples.{chain, table}
use Rattle.runs.specs.Seen.{taken}
use Rattle.bench.specs.Sharing.{Stand, Begins, Ticks}

abbrev pub graph : Net
graph = chain 1 1 2

abbrev pub works : ℕ → ℕ
works = table (2 ∷ 3 ∷ [])

pub record Turning : Type 0 where
  pub state : State
  pub left : ℕ → ℕ
  pub turn : ℕ
  pub busy : Bool

abbrev pub less : (ℕ → ℕ) → ℕ → ℕ → ℕ
less left x a = left a - when (a == x) 1

abbrev pub laid : (ℕ → Bool) → (ℕ → ℕ) → ℕ → ℕ
laid go left a = cond (go a) (works a) (left a)

abbrev pub goes : State → (ℕ → ℕ) → ℕ → Bool → Turning
goes s left turn busy = record { state = start graph works s; left = laid (ready graph s) left; turn = turn; busy = busy }

abbrev pub first : Turning
first = goes (initial_state graph) (λ a. 0) 1 false

-- firings take the ring's lefts and end
abbrev pub moved : Turning → Option ℕ → Turning
moved r None = goes (finish graph (taken r.state r.left) r.state) r.left r.turn r.busy
moved r (Some x) = goes (finish graph (taken r.state (less r.left x)) r.state) (less r.left x) x (nat_lt 0 (less r.left x x))

abbrev pub onward : Turning → Turning
onward r = moved r (next 2 (r.left 0 ∷ r.left 1 ∷ []) r.turn r.busy)

abbrev pub shared : ℕ → Turning
shared zero = first
shared (suc t) = onward (shared t)

abbrev pub endings : ℕ → ℕ → List ℕ
endings a zero = []
endings a (suc t) = endings a t ++ cond (nat_lt ((shared t).state.ended a) ((shared (suc t)).state.ended a)) (suc t ∷ []) []

pub record NewRing (p : Ring) : Type 0 where
  pub count : length p.rows.list.items ≡ 2
  pub works : (a : ℕ) → a < 2 → slice_index (works_of p.rows.list.items) a ≡ works a
  pub turn : p.turn ≡ 1

abbrev pub OnlyRun : Type 0
OnlyRun = (p : Ring) (z : ℕ → Stand Ring) (q : ℕ → Ring) → NewRing p → Begins ghosts graph works p (z 0) → ((t : ℕ) → Ticks ghosts graph works (z t) (q t) (z (suc t))) →
    (t a : ℕ) → a < 2 → (z t).state.ended a ≡ (shared t).state.ended a
