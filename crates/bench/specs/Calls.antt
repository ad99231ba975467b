-- What the calls of a bench answer and leave, where `refused` is what the check of its join found. Assumes nothing.
--
-- look        what stands in a bench
-- graph_of    its graph
-- Done        a tick that was done
-- TickIs      a tick
-- Begun       a restart that was done
-- RestartIs   a restart
-- QuestionIs  a question of a number, where k are there, and f says what each has
-- PerformIs   any call
use Rattle.std.specs.Prelude.{◌≡◌, ℕ, ◌<◌, ◌≤◌, [], ◌∷◌, Some, None, Ok, Err, Option, Result}
use Rattle.policy.specs.declared.meaning.Policy.{Ghosts}
use Rattle.graph.specs.declared.graph.Graph.{Graph}
use Rattle.model.specs.Net.{Net}
use Rattle.runs.specs.Seen.{state}
use Rattle.rates.specs.declared.fault.Fault.{Fault}
use Rattle.rates.specs.declared.fault.Fault.TheVariants.{Works, LastTick, Absent}
use Rattle.rates.specs.Rates.{last_tick}
use Rattle.bench.specs.declared.bench.Bench.{Bench}
use Rattle.bench.specs.declared.call.Call.{Call}
use Rattle.bench.specs.declared.call.Answer.{Answer}
use Rattle.bench.specs.Sharing.{Stand, stand, Begins, Ticks, ended_now}
use Rattle.bench.specs.Story.{Serves, InStep, Does}

abbrev pub look : {X : Type 0} {m : Ghosts X} → Bench X m → Stand X
look b = stand b.run.tick (state b.run) b.policy

abbrev pub graph_of : {X : Type 0} {m : Ghosts X} → Bench X m → Graph
graph_of b = b.run.graph.now

-- t is the tick number, and k the number of firings ended; a bench in step stays so
pub record Done {X : Type 0} (m : Ghosts X) (n : Net) (time : ℕ → ℕ) (b z : Stand X) (t k : ℕ) : Type 0 where
  pub served : X
  pub early : b.tick < last_tick
  pub ticks : Ticks m n time b served z
  pub number : t ≡ z.tick
  pub ended : k ≡ ended_now m n b.state served
  pub kept : (p : X) (h : Serves X) → InStep m n time p h b → InStep m n time p ((b.policy, served) ∷ h) z

abbrev pub TickIs : {X : Type 0} → Ghosts X → Net → (ℕ → ℕ) → Option ℕ → Stand X → Stand X → Result (ℕ × ℕ) Fault → Type 0
TickIs m n time (Some a) b z r = (r ≡ Err (Works a)) × (z ≡ b)
TickIs m n time None b z (Ok r) = Done m n time b z r.0 r.1
TickIs m n time None b z (Err f) = (f ≡ LastTick) × (b.tick ≡ last_tick) × (z ≡ b)

pub record Begun {X : Type 0} (m : Ghosts X) (n : Net) (time : ℕ → ℕ) (b z : Stand X) : Type 0 where
  pub begins : Begins m n time b.policy z
  pub kept : (p : X) (h : Serves X) → InStep m n time p h b → InStep m n time p [] z

abbrev pub RestartIs : {X : Type 0} → Ghosts X → Net → (ℕ → ℕ) → Option ℕ → Stand X → Stand X → Result Unit Fault → Type 0
RestartIs m n time (Some a) b z r = (r ≡ Err (Works a)) × (z ≡ b)
RestartIs m n time None b z (Ok _) = Begun m n time b z
RestartIs m n time None b z (Err _) = ⊥

abbrev pub QuestionIs : Option ℕ → ℕ → (ℕ → ℕ) → ℕ → Result ℕ Fault → Type 0
QuestionIs (Some w) k f a r = r ≡ Err (Works w)
QuestionIs None k f a (Ok x) = (a < k) × (x ≡ f a)
QuestionIs None k f a (Err e) = (k ≤ a) × (e ≡ Absent)

abbrev pub PerformIs : {X : Type 0} → Ghosts X → Net → (ℕ → ℕ) → Option ℕ → Stand X → Call → Result Answer Fault → Stand X → Type 0
PerformIs m n time (Some a) b c r z = (r ≡ Err (Works a)) × (z ≡ b)
PerformIs {X} m n time None b c r z = (h : Serves X) → (h' : Serves X) × Does m n time b h c r z h'
