-- A tick keeps every channel's places, whatever the new ticks left. Assumes nothing.
use Rattle.std.proofs.Common.{◌≡◌, ℕ, ◌+◌, ◌<◌, ◌≤◌, Bool, true, false, cond, ◌&&◌, eqb, ltb, refl, ◌∙◌, arith}
use Rattle.std.proofs.lemmas.Bool.Decides.{nat_tests}
use Rattle.graph.specs.declared.graph.Graph.{Graph}
use Rattle.graph.specs.Meaning.{channels_in}
use Rattle.model.specs.Net.{Net, Sound, Timed, State, when, busy, ready, initial_state, start, finish, tick, run}
use Rattle.model.specs.Likeness.{Alike}
use Rattle.model.proofs.Ready.{ready_true, has_tokens, has_places}
use Rattle.model.proofs.Balance.{run_balanced, capacity_whole}
use Rattle.runs.specs.Nets.{net, taken}
use Rattle.runs.specs.Loops.{Roomy}
use Rattle.runs.specs.Places.{places, Whole, Within}
use Rattle.runs.proofs.Graphs.{graph_fitting}

-- claimed or in use until the firing ends
until_end : (b : Bool) (l p : ℕ) → when (b && eqb (cond b l 0) 0) p + when (ltb 0 (cond b l 0)) p ≡ when b p
until_end true l p = grind (arith, nat_tests)
until_end false l p = refl

-- and from when it starts
from_start : (r : Bool) (t l p : ℕ) → 0 < t → (r ≡ true → ltb 0 l ≡ false) → when (ltb 0 (cond r t l)) p ≡ when (ltb 0 l) p + when r p
from_start true t l p pos idle = let e = idle refl in grind (arith, nat_tests)
from_start false t l p pos idle = omega arith

-- no more than these, even where a firing takes no tick
up_to : (b : Bool) (p : ℕ) → when b p ≤ p
up_to true p = omega arith
up_to false p = omega arith

start_up_to : (r : Bool) (t l p : ℕ) → when (ltb 0 (cond r t l)) p ≤ when (ltb 0 l) p + when r p
start_up_to true t l p = omega (arith, up_to (ltb 0 t) p)
start_up_to false t l p = omega arith

fits : (r : Bool) (p x : ℕ) → (r ≡ true → p ≤ x) → when r p ≤ x
fits true p x h = h refl
fits false p x h = omega arith

module _ (n : Net) (sound : Sound n) where
  finish_places : (s : State) (left : ℕ → ℕ) (c : ℕ) → places n (finish n (taken s left) s) c ≡ places n s c
  finish_places s left c = omega (arith, until_end (busy s (n.source c)) (left (n.source c)) (n.p c), until_end (busy s (n.dest c)) (left (n.dest c)) (n.q c))

  alike_places : (s z : State) → Alike n s z → (c : ℕ) → c < n.channels → places n s c ≡ places n z c
  alike_places s z h c hc = rw (h.tokens c hc, h.free c hc, h.left (n.source c) (sound.source_in c hc), h.left (n.dest c) (sound.dest_in c hc))

  pub begins_within : (z : State) → Alike n z (initial_state n) → Within n z
  begins_within z h c hc = omega (arith, alike_places z (initial_state n) h c hc, sound.fits c hc)

  pub finishes_within : (s z : State) (left : ℕ → ℕ) → Alike n z (finish n (taken s left) s) → Within n s → Within n z
  finishes_within s z left h w c hc = omega (arith, alike_places z (finish n (taken s left) s) h c hc, finish_places s left c, w c hc)

  -- whatever the times
  module _ (time : ℕ → ℕ) where
    start_within : (s : State) (c : ℕ) → c < n.channels → places n (start n time s) c ≤ places n s c
    start_within s c hc =
        let d = n.dest c in
        let u = n.source c in
        omega (
          arith,
          start_up_to (ready n s d) (time d) (s.left d) (n.q c),
          start_up_to (ready n s u) (time u) (s.left u) (n.p c),
          fits (ready n s d) (n.q c) (s.tokens c) (has_tokens n s c hc),
          fits (ready n s u) (n.p c) (s.free c) (has_places n s c hc),
        )

    pub starts_within : (s z : State) → Alike n z (start n time s) → Within n s → Within n z
    starts_within s z h w c hc = omega (arith, alike_places z (start n time s) h c hc, start_within s c hc, w c hc)

  -- with times from 1
  module _ (time : ℕ → ℕ) (pos : Timed n time) where
    start_places : (s : State) (c : ℕ) → c < n.channels → places n (start n time s) c ≡ places n s c
    start_places s c hc =
        let d = n.dest c in
        let u = n.source c in
        omega (
          arith,
          from_start (ready n s d) (time d) (s.left d) (n.q c) (pos d (sound.dest_in c hc)) (λ e. (ready_true n s d e).0),
          from_start (ready n s u) (time u) (s.left u) (n.p c) (pos u (sound.source_in c hc)) (λ e. (ready_true n s u e).0),
          fits (ready n s d) (n.q c) (s.tokens c) (has_tokens n s c hc),
          fits (ready n s u) (n.p c) (s.free c) (has_places n s c hc),
        )

    pub first_whole : (z : State) → Alike n z (run n time 0) → Whole n z
    first_whole z h c hc = alike_places z (run n time 0) h c hc ∙ capacity_whole n sound (run n time 0) (run_balanced n sound time pos 0) c hc

    pub tick_whole : (s z : State) (left : ℕ → ℕ) → Alike n z (tick n time (taken s left) s) → Whole n s → Whole n z
    tick_whole s z left h w c hc =
        alike_places z (tick n time (taken s left) s) h c hc ∙ (start_places (finish n (taken s left) s) c hc ∙ (finish_places s left c ∙ w c hc))

-- there is room for what firings give
pub within_roomy : (g : Graph) (s : State) → Within (net g) s → Roomy (channels_in g) s
within_roomy g s w c hc = (omega (arith, w c hc, (graph_fitting g).small c hc), omega (arith, w c hc, (graph_fitting g).small c hc))
