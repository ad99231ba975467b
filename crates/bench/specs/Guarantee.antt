-- The guarantee whole: what holds of a bench, of its graph's two runs and of every schedule. Assumes nothing.
use Rattle.std.specs.Prelude.{◌≡◌, ℕ, ◌<◌, min, Ok, Result, List, length, get_or, slice_index_or}
use Rattle.policy.specs.declared.meaning.Policy.{Ghosts}
use Rattle.graph.specs.declared.graph.Graph.{Graph}
use Rattle.runs.specs.Seen.{net, times_of}
use Rattle.rates.specs.declared.fault.Fault.{Fault}
use Rattle.rates.specs.declared.sample.Sample.{Sample}
use Rattle.rates.specs.Rates.{Unbeaten}
use Rattle.rates.specs.Rated.{RunRated, PromisedRated}
use Rattle.bench.specs.declared.call.Call.{Call}
use Rattle.bench.specs.declared.call.Call.TheVariants.{Tick}
use Rattle.bench.specs.declared.call.Answer.{Answer}
use Rattle.bench.specs.declared.call.Answer.TheVariants.{Restarted}
use Rattle.bench.specs.declared.report.Report.{Report}
use Rattle.bench.specs.Sharing.{Stand}
use Rattle.bench.specs.Story.{Serves, Story, Followed}
use Rattle.bench.specs.Calls.{look, graph_of}

-- how many calls are made: as many as there is room for answers
abbrev pub made : List Call → List (Result Answer Fault) → ℕ
made calls answers = min (length calls) (length answers)

-- p is the policy that is joined, rows are those of the unhindered run and held those of the promised one; primes stand for afterwards
pub record Guaranteed {X : Type 0} (m : Ghosts X) (g : Graph) (p : X) (calls : List Call) (answers answers' : List (Result Answer Fault)) (rows rows' held held' : List Sample) (r : Report X m) : Type 0 where
  pub graph : graph_of r.bench ≡ g
  pub story : Followed m (net g) (times_of g) p calls answers answers' (made calls answers) (look r.bench)
  pub unhindered : RunRated g (times_of g) rows rows' r.unhindered
  pub promised : PromisedRated g (m.view p) held held' r.promised
  pub fastest : Unbeaten g

-- any story of these calls, joined with a policy like p, has these answers
abbrev pub Pinned : {X : Type 0} → Ghosts X → (X → X → Type 0) → Graph → X → List Call → List (Result Answer Fault) → ℕ → Type 0
Pinned {X} m like g p calls answers k = (q : X) (answer : ℕ → Result Answer Fault) (h : Serves X) (z : Stand X) → like p q →
    Story m (net g) (times_of g) q (λ i. get_or calls i Tick) answer k h z → (i : ℕ) → i < k → answer i ≡ slice_index_or answers i (Ok Restarted)
