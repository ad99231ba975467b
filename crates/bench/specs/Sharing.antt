-- A run that a policy shares: ticks left are the policy's, and each start lays with it. Assumes nothing.
--
-- Stand      what stands in a bench: the ticks done, what channels and actors hold, and the policy
-- stand      the same, from its parts
-- Asked      lay is asked for an actor: it is done where it can be, and else nothing changes
-- Lays       lay is asked for each actor below k that starts, in number order, and for no other
-- newly      a firing is under way where no ticks were left
-- Begins     tick 0, of join and restart
-- Ticks      a later tick
-- many       how many numbers below k pass a test
-- ended_now  how many firings end as a policy has their ticks left
-- Stepped    a later tick, and how many firings ended in it
use Rattle.std.specs.Prelude.{◌≡◌, ℕ, zero, suc, ◌+◌, Bool, true, false, ◌&&◌, ◌==◌}
use Rattle.policy.specs.declared.meaning.Policy.{Ghosts}
use Rattle.policy.specs.Meaning.{layable}
use Rattle.model.specs.Net.{Net, State, when, busy, ready, ends, finish, tick, initial_state, run}
use Rattle.model.specs.Likeness.{Matches}
use Rattle.runs.specs.Seen.{taken}

pub record Stand (X : Type 0) : Type 0 where
  pub tick : ℕ
  pub state : State
  pub policy : X

abbrev pub stand : {X : Type 0} → ℕ → State → X → Stand X
stand t s p = record { tick = t; state = s; policy = p }

pub record Asked {X : Type 0} (m : Ghosts X) (p : X) (a : ℕ) (q : X) : Type 0 where
  pub done : layable (m.view p) a ≡ true → m.lays p a q
  pub refused : layable (m.view p) a ≡ false → q ≡ p

abbrev pub Lays : {X : Type 0} → Ghosts X → (ℕ → Bool) → ℕ → X → X → Type 0
Lays m go zero p q = q ≡ p
Lays {X} m go (suc k) p q = (r : X) × Lays m go k p r × (go k ≡ true → Asked m r k q) × (go k ≡ false → q ≡ r)

abbrev pub newly : (ℕ → ℕ) → State → ℕ → Bool
newly left s a = left a == 0 && busy s a

-- the policy p is cleared, then every ready actor starts and lays with it
pub record Begins {X : Type 0} (m : Ghosts X) (n : Net) (time : ℕ → ℕ) (p : X) (z : Stand X) : Type 0 where
  pub cleared : X
  pub clears : m.clears p cleared
  pub first : z.tick ≡ 0
  pub starts : Matches n z.state (run n time 0)
  pub lays : Lays m (ready n (initial_state n)) n.actors cleared z.policy

-- the policy is served once, to q; each firing under way has the ticks left that q has, and ends at 0; then every ready actor
-- starts and lays
pub record Ticks {X : Type 0} (m : Ghosts X) (n : Net) (time : ℕ → ℕ) (b : Stand X) (q : X) (z : Stand X) : Type 0 where
  pub serves : m.ticks b.policy q
  pub next : z.tick ≡ b.tick + 1
  pub goes : Matches n z.state (tick n time (taken b.state (m.view q).left) b.state)
  pub lays : Lays m (ready n (finish n (taken b.state (m.view q).left) b.state)) n.actors q z.policy

abbrev pub many : (ℕ → Bool) → ℕ → ℕ
many f zero = 0
many f (suc k) = many f k + when (f k) 1

abbrev pub ended_now : {X : Type 0} → Ghosts X → Net → State → X → ℕ
ended_now m n s q = many (ends s (taken s (m.view q).left)) n.actors

pub record Stepped {X : Type 0} (m : Ghosts X) (n : Net) (time : ℕ → ℕ) (b z : Stand X) (k : ℕ) : Type 0 where
  pub served : X
  pub ticks : Ticks m n time b served z
  pub ended : k ≡ ended_now m n b.state served
