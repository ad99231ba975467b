-- What a bench has been through, call by call, and what is kept at each moment. Assumes nothing.
--
-- Serves    the serves since the last join or restart that was done, the most recent first: the policy before and after each
-- ended_by  the firings of an actor that the policy's left ended: the serves that brought it from above 0 to 0
-- Kept      the tick number is how many serves there were; ticks left are the policy's; each count is what the policy's left
--           ended, and lies between those of the promised and of the unhindered run at that tick
-- InStep    a bench that was joined with a policy which the check accepts: what is kept, and the pace that keeps it
-- Does      what a call does and answers
-- Story     the bench that was joined with a policy, after its first calls, with what is kept at each moment
-- Followed  the calls made: their story, or the join's refusal to each
use Rattle.std.specs.Prelude.{◌≡◌, ℕ, suc, ◌+◌, ◌<◌, ◌≤◌, ◌&&◌, List, [], ◌∷◌, Ok, Err, Result, length, get_or, ◌==◌, nat_lt, slice_index_or}
use Rattle.policy.specs.declared.meaning.Policy.{Ghosts}
use Rattle.policy.specs.Meaning.{SameTerms}
use Rattle.model.specs.Net.{Net, when, run}
use Rattle.model.specs.Laws.{Paced}
use Rattle.rates.specs.declared.fault.Fault.{Fault}
use Rattle.rates.specs.declared.fault.Fault.TheVariants.{Works, LastTick, Absent}
use Rattle.rates.specs.Rates.{last_tick}
use Rattle.rates.specs.Agree.{Agreed, Differ}
use Rattle.bench.specs.declared.call.Call.{Call}
use Rattle.bench.specs.declared.call.Call.TheVariants.{Tick, Count, Tokens, Due, Restart}
use Rattle.bench.specs.declared.call.Answer.{Answer}
use Rattle.bench.specs.declared.call.Answer.TheVariants.{Ticked, Counted, Held, Owed, Restarted}
use Rattle.bench.specs.Sharing.{Stand, Begins, Ticks, ended_now}

abbrev pub Serves : Type 0 → Type 0
Serves X = List (X × X)

abbrev pub ended_by : {X : Type 0} → Ghosts X → Serves X → ℕ → ℕ
ended_by m [] a = 0
ended_by m (x ∷ h) a = ended_by m h a + when (nat_lt 0 ((m.view x.0).left a) && (m.view x.1).left a == 0) 1

pub record Kept {X : Type 0} (m : Ghosts X) (n : Net) (time promise : ℕ → ℕ) (h : Serves X) (z : Stand X) : Type 0 where
  pub ticks : z.tick ≡ length h
  pub left : (a : ℕ) → a < n.actors → z.state.left a ≡ (m.view z.policy).left a
  pub counts : (a : ℕ) → a < n.actors → z.state.ended a ≡ ended_by m h a
  pub at_least : (a : ℕ) → a < n.actors → (run n promise z.tick).ended a ≤ z.state.ended a
  pub at_most : (a : ℕ) → a < n.actors → z.state.ended a ≤ (run n time z.tick).ended a

-- joined with p, whose works and promises no call changes
pub record InStep {X : Type 0} (m : Ghosts X) (n : Net) (time : ℕ → ℕ) (p : X) (h : Serves X) (z : Stand X) : Type 0 where
  pub agreed : Agreed n time (m.view p)
  pub terms : SameTerms (m.view p) (m.view z.policy)
  pub paced : Paced n time (m.view p).promise z.tick z.state (m.view z.policy).due
  pub kept : Kept m n time (m.view p).promise h z

-- b and the serves h stand before the call, and z and others after it
pub data Does {X : Type 0} (m : Ghosts X) (n : Net) (time : ℕ → ℕ) (b : Stand X) (h : Serves X) : Call → Result Answer Fault → Stand X → Serves X → Type 0 where
  ticked : (q : X) (z : Stand X) → b.tick < last_tick → Ticks m n time b q z →
      Does m n time b h Tick (Ok (Ticked z.tick (ended_now m n b.state q))) z ((b.policy, q) ∷ h)
  late : b.tick ≡ last_tick → Does m n time b h Tick (Err LastTick) b h
  counted : (a : ℕ) → a < n.actors → Does m n time b h (Count a) (Ok (Counted (b.state.ended a))) b h
  no_count : (a : ℕ) → n.actors ≤ a → Does m n time b h (Count a) (Err Absent) b h
  held : (c : ℕ) → c < n.channels → Does m n time b h (Tokens c) (Ok (Held (b.state.tokens c))) b h
  no_tokens : (c : ℕ) → n.channels ≤ c → Does m n time b h (Tokens c) (Err Absent) b h
  owed : (a : ℕ) → a < n.actors → Does m n time b h (Due a) (Ok (Owed ((m.view b.policy).due a))) b h
  no_due : (a : ℕ) → n.actors ≤ a → Does m n time b h (Due a) (Err Absent) b h
  restarted : (z : Stand X) → Begins m n time b.policy z → Does m n time b h Restart (Ok Restarted) z []

-- after k calls
pub data Story {X : Type 0} (m : Ghosts X) (n : Net) (time : ℕ → ℕ) (p : X) (call : ℕ → Call) (answer : ℕ → Result Answer Fault) : ℕ → Serves X → Stand X → Type 0 where
  joined : (z : Stand X) → Begins m n time p z → Kept m n time (m.view p).promise [] z → Story m n time p call answer 0 [] z
  called : (k : ℕ) (h h' : Serves X) (b z : Stand X) → Story m n time p call answer k h b →
      Does m n time b h (call k) (answer k) z h' → Kept m n time (m.view p).promise h' z → Story m n time p call answer (suc k) h' z

-- as many as k calls, of a bench joined with p; answers past them stay
pub record Followed {X : Type 0} (m : Ghosts X) (n : Net) (time : ℕ → ℕ) (p : X) (calls : List Call) (answers answers' : List (Result Answer Fault)) (k : ℕ) (z : Stand X) : Type 0 where
  pub story : Agreed n time (m.view p) → (h : Serves X) × Story m n time p (λ i. get_or calls i Tick) (λ i. get_or answers' i (Ok Restarted)) k h z
  pub refused : (a : ℕ) → Differ n time (m.view p) a → Begins m n time p z × ((i : ℕ) → i < k → slice_index_or answers' i (Ok Restarted) ≡ Err (Works a))
  pub rest : (i : ℕ) → k ≤ i → slice_index_or answers' i (Ok Restarted) ≡ slice_index_or answers i (Ok Restarted)
