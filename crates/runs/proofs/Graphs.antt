-- Every graph is an accepted one. Assumes nothing.
use Rattle.std.proofs.Common.{◌≡◌, ℕ, ◌*◌, ◌<◌, ◌≤◌, List, length, get_or, sym, ap, ◌∙◌, subst, arith}
use mathlib.Core.Logic.{∥∥₁_map}
use Rattle.std.proofs.lemmas.List.{get_or-take}
use Rattle.std.proofs.lemmas.Bool.Decides.{nat_tests}
use Rattle.graph.specs.declared.actor.Actor.{Actor}
use Rattle.graph.specs.declared.channel.Channel.{Channel}
use Rattle.graph.specs.declared.graph.Graph.{Graph}
use Rattle.graph.specs.Channels.{blank}
use Rattle.graph.specs.Meaning.{actors_in, channels_in}
use Rattle.graph.specs.Piece.{Way, start, along, back}
use Rattle.graph.proofs.Graphs.{actors_are, channels_are}
use Rattle.model.specs.Net.{Net, Timed}
use Rattle.model.specs.Meaning.{Joined, first, along as on, back as off, Accepted}
use Rattle.runs.specs.Nets.{net_of, net, at, times_of, reps_of}
use Rattle.runs.specs.Loops.{Fitting}

joins : (n : ℕ) (cs : List Channel) {a : ℕ} → Way cs a → Joined (net_of n cs) a
joins n cs start = first
joins n cs (along k h w) = on k h (joins n cs w)
joins n cs (back k h w) = off k h (joins n cs w)

-- what the tests on a channel tell
record Kept (n : ℕ) (c : Channel) : Type 0 where
  pub source : c.source < n
  pub dest : c.dest < n
  pub p : 0 < c.p
  pub q : 0 < c.q
  pub fits : c.tokens ≤ c.capacity
  pub small : c.capacity ≤ 4096

module _ (g : Graph) where
  kept : (c : ℕ) → c < length (channels_in g) → Kept (length (actors_in g)) (get_or (channels_in g) c blank)
  kept c hc =
      let h = g.limited c hc in
      let e = actors_are g in
      record { source = grind (arith, nat_tests); dest = grind (arith, nat_tests); p = grind (arith, nat_tests); q = grind (arith, nat_tests); fits = grind (arith, nat_tests); small = grind (arith, nat_tests) }

  pub graph_fitting : Fitting (length (actors_in g)) (channels_in g)
  graph_fitting = record {
    few = (omega (arith, actors_are g, g.few), omega (arith, channels_are g, g.few));
    sound = record {
      source_in = λ c hc. (kept c hc).source;
      dest_in = λ c hc. (kept c hc).dest;
      p_pos = λ c hc. (kept c hc).p;
      q_pos = λ c hc. (kept c hc).q;
      fits = λ c hc. (kept c hc).fits;
    };
    small = λ c hc. (kept c hc).small;
  }

  pub graph_timed : Timed (net g) (times_of g)
  graph_timed a ha = let h = (g.named a ha).3 in grind (arith, nat_tests)

  pub graph_some : 0 < (net g).actors
  graph_some = omega (arith, actors_are g, g.few)

  reps_are : (a : ℕ) → a < length (actors_in g) → reps_of g a ≡ at g.counts a
  reps_are a ha = get_or-take g.n g.counts a 0 (omega (arith, actors_are g))

  pub graph_counted : 0 < reps_of g 0
  graph_counted = omega (arith, reps_are 0 graph_some, g.solves.0 0 (omega (arith, g.few)))

  pub graph_accepted : (time : ℕ → ℕ) → Timed (net g) time → Accepted (net g) time (reps_of g)
  graph_accepted time pos = record {
    sound = graph_fitting.sound;
    timed = pos;
    some = graph_some;
    joined = λ a ha. ∥∥₁_map (g.whole a (omega (arith, actors_are g))) (joins (length (actors_in g)) (channels_in g));
    balances = λ c hc.
        let s = reps_are ((net g).source c) (kept c hc).source in
        let d = reps_are ((net g).dest c) (kept c hc).dest in
        ap (λ x. (net g).p c * x) s ∙ (g.solves.1 c hc ∙ sym (ap (λ x. (net g).q c * x) d));
    counted = graph_counted;
  }

-- the graph's own actors, channels and times
pub over_graph : (g : Graph) (us : List Actor) (cs : List Channel) (ts : List ℕ) → us ≡ actors_in g → cs ≡ channels_in g → ((a : ℕ) → at ts a ≡ times_of g a) →
    (P : Net → (ℕ → ℕ) → Type 0) → P (net_of (length us) cs) (at ts) → P (net g) (times_of g)
over_graph g us cs ts e f h P x =
    subst (λ (us : List Actor). P (net_of (length us) (channels_in g)) (times_of g)) e
    (subst (λ (cs : List Channel). P (net_of (length us) cs) (times_of g)) f (subst (λ (t : ℕ → ℕ). P (net_of (length us) cs) t) (λ i a. h a i) x))
