-- What rate answers, what it leaves in the rows, and that nothing is faster. Assumes nothing.
--
-- last_tick   the last tick that a run is followed to
-- outcome     the outcome of a run with a table of times, for these rows
-- told        an answer, as the program gives it
-- Rated       what rate answers and leaves
-- unhindered  the outcome of a graph's unhindered run, for these rows
-- Unbeaten    no schedule that a graph allows ends a firing before its unhindered run
-- SampledIs   what becomes of a sample that is due
-- Judged      what becomes of a tick
use Rattle.std.specs.Prelude.{◌≡◌, ℕ, ◌+◌, ◌-◌, ◌<◌, ◌≤◌, Bool, true, false, not, List, length, Some, None, Ok, Err, Option, Result, slice_index_or, slice_set}
use Rattle.table.specs.Find.{FirstIs}
use Rattle.graph.specs.declared.graph.Graph.{Graph}
use Rattle.model.specs.Net.{Net, State, every, busy, run}
use Rattle.model.specs.Schedule.{Schedule, Allowed}
use Rattle.model.specs.Rate.{Answer, standstill, repeats, no_row, late, Outcome, rate_of}
use Rattle.runs.specs.Seen.{net, times_of, reps_of}
use Rattle.rates.specs.declared.fault.Fault.{Fault}
use Rattle.rates.specs.declared.fault.Fault.TheVariants.{Works, NoRow, LastTick, Absent}
use Rattle.rates.specs.declared.rate.Rate.{Rate}
use Rattle.rates.specs.declared.rate.Rate.TheVariants.{Repeats, Standstill}
use Rattle.rates.specs.declared.sample.Sample.{Sample}
use Rattle.rates.specs.Rows.{same_row, Rising, row_of, leaves}

abbrev pub last_tick : ℕ
last_tick = 10_000_000

abbrev pub outcome : Net → (ℕ → ℕ) → ℕ → List Sample → Outcome
outcome n time rep rows = rate_of n time rep (length rows) last_tick

abbrev pub told : Answer → Result Rate Fault
told (standstill f) = Ok (Standstill f)
told (repeats f d m) = Ok (Repeats f d m)
told no_row = Err NoRow
told late = Err LastTick

-- the ticks of the rows taken never fall
pub record Rated (n : Net) (time : ℕ → ℕ) (rep : ℕ) (rows rows' : List Sample) (r : Result Rate Fault) : Type 0 where
  pub value : r ≡ told (outcome n time rep rows).answer
  pub after : rows' ≡ leaves n time (outcome n time rep rows).taken rows
  pub rising : Rising rows' (length (outcome n time rep rows).taken)

abbrev pub unhindered : Graph → List Sample → Outcome
unhindered g rows = outcome (net g) (times_of g) (reps_of g 0) rows

abbrev pub Unbeaten : Graph → Type 0
Unbeaten g = (s : Schedule) → Allowed (net g) (times_of g) s → (a k : ℕ) → a < (net g).actors → s.has a k ≡ true → k + 1 ≤ (run (net g) (times_of g) (s.end a k)).ended a

-- with the first n rows of xs taken before, and the first m of ys after: it takes a row, or its answer is one of two
abbrev pub SampledIs : List Sample → ℕ → Sample → List Sample → ℕ → Result (Option Rate) Fault → Type 0
SampledIs xs n x ys m (Ok None) = (n < length xs) × FirstIs same_row xs n x None × (ys ≡ slice_set xs n x) × (m ≡ n + 1)
SampledIs xs n x ys m (Ok (Some (Repeats f d k))) =
    (r : ℕ) × FirstIs same_row xs n x (Some r) × (f ≡ (slice_index_or xs r x).tick) × (d ≡ x.tick - f) × (k ≡ n - r) × (ys ≡ xs) × (m ≡ n)
SampledIs xs n x ys m (Ok (Some (Standstill f))) = ⊥
SampledIs xs n x ys m (Err NoRow) = (length xs ≤ n) × FirstIs same_row xs n x None × (ys ≡ xs) × (m ≡ n)
SampledIs xs n x ys m (Err LastTick) = ⊥
SampledIs xs n x ys m (Err (Works a)) = ⊥
SampledIs xs n x ys m (Err Absent) = ⊥

-- standstill first, then the sample, if it is due
pub record Judged (n : Net) (s : State) (due : Bool) (t : ℕ) (xs : List Sample) (used : ℕ) (ys : List Sample) (m : ℕ) (r : Result (Option Rate) Fault) : Type 0 where
  pub still : every n.actors (λ a. not (busy s a)) ≡ true → (r ≡ Ok (Some (Standstill t))) × (ys ≡ xs) × (m ≡ used)
  pub on : every n.actors (λ a. not (busy s a)) ≡ false → due ≡ false → (r ≡ Ok None) × (ys ≡ xs) × (m ≡ used)
  pub sampled : every n.actors (λ a. not (busy s a)) ≡ false → due ≡ true → SampledIs xs used (row_of n s t) ys m r
