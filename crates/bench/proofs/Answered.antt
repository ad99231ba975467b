-- What join leaves, and tick and restart answer of a bench that was not refused. Assumes nothing.
use Rattle.std.proofs.Common.{◌≡◌, ℕ, ◌<◌, [], Some, None, Ok, Err, Option, Result, MatchOption, refl}
use Rattle.policy.specs.declared.meaning.Policy.{Ghosts}
use Rattle.graph.specs.declared.graph.Graph.{Graph}
use Rattle.model.specs.Net.{Net}
use Rattle.runs.specs.Seen.{net, times_of}
use Rattle.runs.proofs.Graphs.{graph_fitting, graph_timed}
use Rattle.rates.specs.declared.fault.Fault.{Fault}
use Rattle.rates.specs.declared.fault.Fault.TheVariants.{Works}
use Rattle.rates.specs.Rates.{last_tick}
use Rattle.rates.specs.Agree.{Agreed}
use Rattle.bench.specs.Sharing.{Stand, Begins, Stepped}
use Rattle.bench.specs.Story.{InStep}
use Rattle.bench.specs.Calls.{TickIs, RestartIs}
use Rattle.bench.proofs.Shared.{Means, joins_in_step, begins_in_step, ticks_in_step}

-- an accepted join
pub nobody : (o : Option ℕ) (r : Result Unit Fault) (u : Unit) → r ≡ Ok u → MatchOption o (r ≡ Ok tt) (λ a. r ≡ Err (Works a)) → o ≡ None
nobody None r u e h = refl
nobody (Some a) r u e h = absurd (cc (e, h))

-- over a graph, with its times
module _ {X : Type 0} (m : Ghosts X) (means : Means m) (g : Graph) where
  abbrev n : Net
  n = net g

  abbrev time : ℕ → ℕ
  time = times_of g

  pub joined_so : (p : X) (z : Stand X) → Begins m n time p z → Agreed n time (m.view p) → InStep m n time p [] z
  joined_so = joins_in_step m means n (graph_fitting g).sound time (graph_timed g)

  pub ticked_so : (o : Option ℕ) (b z : Stand X) (k : ℕ) → o ≡ None → b.tick < last_tick → Stepped m n time b z k → TickIs m n time o b z (Ok (z.tick, k))
  ticked_so (Some a) b z k e lt h = absurd (cc e)
  ticked_so None b z k e lt h = record {
    served = h.served;
    early = lt;
    ticks = h.ticks;
    number = refl;
    ended = h.ended;
    kept = λ p was i. ticks_in_step m means n (graph_fitting g).sound time (graph_timed g) p i.agreed was b z h.served i h.ticks;
  }

  pub restarted_so : (o : Option ℕ) (b z : Stand X) (u : Unit) → o ≡ None → Begins m n time b.policy z → RestartIs m n time o b z (Ok u)
  restarted_so (Some a) b z u e h = absurd (cc e)
  restarted_so None b z u e h = record { begins = h; kept = λ p was i. begins_in_step m means n (graph_fitting g).sound time (graph_timed g) p i.agreed b.policy z i.terms h }
