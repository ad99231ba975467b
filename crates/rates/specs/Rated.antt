-- What the rates of the unhindered and of the promised run tell. Assumes nothing.
use Rattle.std.specs.Prelude.{◌≡◌, ℕ, List, length, Err, Result}
use Rattle.policy.specs.Meaning.{View}
use Rattle.graph.specs.declared.graph.Graph.{Graph}
use Rattle.model.specs.Meaning.{RateMeans}
use Rattle.runs.specs.Seen.{net, times_of, reps_of}
use Rattle.rates.specs.declared.fault.Fault.{Fault}
use Rattle.rates.specs.declared.fault.Fault.TheVariants.{Works}
use Rattle.rates.specs.declared.rate.Rate.{Rate}
use Rattle.rates.specs.declared.sample.Sample.{Sample}
use Rattle.rates.specs.Rates.{outcome, Rated}
use Rattle.rates.specs.Agree.{Agreed, Differ}

-- of a graph's run with a table of times: the model's outcome, its rows, and what these mean for ever
pub record RunRated (g : Graph) (time : ℕ → ℕ) (rows rows' : List Sample) (r : Result Rate Fault) : Type 0 where
  pub value : Rated (net g) time (reps_of g 0) rows rows' r
  pub means : RateMeans (net g) time (reps_of g) (length rows) (outcome (net g) time (reps_of g 0) rows)

-- of the run with a policy's promises, where its works are the graph's times; else it is refused, and no row is touched
pub record PromisedRated (g : Graph) (v : View) (rows rows' : List Sample) (r : Result Rate Fault) : Type 0 where
  pub rated : Agreed (net g) (times_of g) v → RunRated g v.promise rows rows' r
  pub refused : (a : ℕ) → Differ (net g) (times_of g) v a → (r ≡ Err (Works a)) × (rows' ≡ rows)
