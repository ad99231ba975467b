-- How the rate of a graph's run goes on, and what it means. Assumes nothing.
use Rattle.std.proofs.Common.{◌≡◌, ℕ, ◌+◌, ◌%◌, Bool, true, ◌&&◌, eqb, List, length, Result, Option, ap, ◌∙◌, subst}
use Rattle.graph.specs.declared.graph.Graph.{Graph}
use Rattle.model.specs.Net.{Timed, ends, fallen, next, run}
use Rattle.model.specs.Likeness.{Matches}
use Rattle.model.proofs.Alikes.{next_matches}
use Rattle.model.proofs.Rates.{rate_holds}
use Rattle.runs.specs.declared.run.Run.{Run}
use Rattle.runs.specs.Seen.{net, at, reps_of, state}
use Rattle.runs.proofs.Graphs.{graph_some, graph_fitting, graph_accepted}
use Rattle.rates.specs.declared.fault.Fault.{Fault}
use Rattle.rates.specs.declared.rate.Rate.{Rate}
use Rattle.rates.specs.declared.sample.Sample.{Sample}
use Rattle.rates.specs.Rows.{Rising}
use Rattle.rates.specs.Rates.{last_tick, Rated, Judged}
use Rattle.rates.specs.Rated.{RunRated}
use Rattle.rates.proofs.Going.{Going, On, Comes, begins, judged_comes, goes_on, due_next, rated_as}

-- What holds at each tick of a graph's run with a table of times, before it is judged.
pub record Followed (gr : Graph) (times : List ℕ) (before : List Sample) (x : Run) (due : Bool) (rows : List Sample) (used : ℕ) : Type 0 where
  pub graph : x.graph.now ≡ gr
  pub times_are : x.times ≡ times
  pub going : Going (net gr) (at times) (reps_of gr 0) before x.tick (state x) due rows used

pub follow_begins : {gr : Graph} {times : List ℕ} {before : List Sample} {x : Run} {used : ℕ} → x.graph.now ≡ gr → x.times ≡ times → x.tick ≡ 0 → used ≡ 0 →
    Matches (net gr) (state x) (run (net gr) (at times) 0) → Followed gr times before x true before used
follow_begins {gr} {times} {before} e f zero none m = record {
  graph = e;
  times_are = f;
  going = rw (zero, none) (begins (net gr) (at times) (reps_of gr 0) before (graph_fitting gr).few m);
}

module _ {gr : Graph} {times : List ℕ} {before : List Sample} {x : Run} {due : Bool} {rows : List Sample} {used : ℕ} (f : Followed gr times before x due rows used) where
  pub follow_comes : {rows' : List Sample} {used' : ℕ} {r : Result (Option Rate) Fault} → (Rising rows used → Rising rows' used') →
      Judged (net x.graph.now) (state x) due x.tick rows used rows' used' r → Comes (net gr) (at times) (reps_of gr 0) before x.tick rows rows' used' f.going.taken r
  follow_comes {rows'} {used'} {r} rising j =
      judged_comes (graph_fitting gr).few f.going rising (subst (λ (g : Graph). Judged (net g) (state x) due x.tick rows used rows' used' r) f.graph j)

  pub follow_on : {z : Run} {done due' : Bool} {rows' : List Sample} {used' : ℕ} → (x.tick ≡ last_tick → ⊥) →
      On (net gr) (at times) (reps_of gr 0) before x.tick rows' used' f.going.taken → z.graph ≡ x.graph → z.times ≡ x.times → z.tick ≡ x.tick + 1 →
      done ≡ ends (state x) (fallen (state x)) 0 → Matches (net x.graph.now) (state z) (next (net x.graph.now) (at x.times) (state x)) →
      due' ≡ (done && eqb ((state z).ended 0 % reps_of gr 0) 0) → Followed gr times before z due' rows' used'
  follow_on {z} not_last o e same up d h due-is =
      let along = subst (λ (g : Graph). Matches (net g) (state z) (next (net g) (at times) (state x))) f.graph
      (subst (λ (ts : List ℕ). Matches (net x.graph.now) (state z) (next (net x.graph.now) (at ts) (state x))) f.times_are h) in
      let m = next_matches (net gr) (graph_fitting gr).sound (at times) (state x) (state z) x.tick along f.going.state in
      record {
        graph = ap (λ g. g.now) e ∙ f.graph;
        times_are = same ∙ f.times_are;
        going = rw up (goes_on f.going not_last o m
            (due-is ∙ (ap (λ b. b && eqb ((state z).ended 0 % reps_of gr 0) 0) d ∙ due_next (net gr) (at times) (reps_of gr 0) x.tick (graph_some gr) f.going.state m)));
      }

-- what the rate of a graph's run means, of all tables that agree with the one it was found by
pub run_rated : (gr : Graph) {time time' : ℕ → ℕ} {rows rows' : List Sample} {r : Result Rate Fault} → ((a : ℕ) → time a ≡ time' a) → Timed (net gr) time' →
    Rated (net gr) time (reps_of gr 0) rows rows' r → RunRated gr time' rows rows' r
run_rated gr {time} {time'} {rows} h pos rated = record {
  value = rated_as h rated;
  means = rate_holds (net gr) time' (reps_of gr) (graph_accepted gr time' pos) (length rows) last_tick;
}
