-- States that agree start, end and go on alike. Assumes nothing.
use Rattle.std.proofs.Common.{◌≡◌, ℕ, ◌+◌, ◌-◌, ◌<◌, not, ◌&&◌, eqb, ltb, ap, ◌∙◌, ap₂, add-one, arith}
use Rattle.model.specs.Net.{Net, Sound, State, when, started, ready, start, ends, finish, tick, initial_state, fallen, next, run}
use Rattle.model.specs.Likeness.{Same, Alike, Matches}
use Rattle.model.specs.Laws.{Balanced, Paced}
use Rattle.model.proofs.Balance.{capacity_whole}
use Rattle.model.proofs.Every.{every_same}

pub alike_trans : (n : Net) (s z w : State) → Alike n s z → Alike n z w → Alike n s w
alike_trans n s z w h k = record { tokens = λ c hc. h.tokens c hc ∙ k.tokens c hc; free = λ c hc. h.free c hc ∙ k.free c hc; left = λ a ha. h.left a ha ∙ k.left a ha }

pub matches_trans : (n : Net) (s z w : State) → Matches n s z → Matches n z w → Matches n s w
matches_trans n s z w h k = record { alike = alike_trans n s z w h.alike k.alike; ended = λ a ha. h.ended a ha ∙ k.ended a ha }

module _ (n : Net) (sound : Sound n) where
  -- the capacity says what is free, where tokens and ticks left agree
  pub same_alike : (s z : State) → Balanced n s → Balanced n z → Same n s z → Alike n s z
  same_alike s z bs bz h = record {
    tokens = h.tokens;
    left = h.left;
    free = λ c hc.
        omega (arith, rw (h.tokens c hc, h.left _ (sound.source_in c hc), h.left _ (sound.dest_in c hc)) at (capacity_whole n sound s bs c hc), capacity_whole n sound z bz c hc);
  }

  pub ready_alike : (s z : State) → Alike n s z → (a : ℕ) → a < n.actors → ready n s a ≡ ready n z a
  ready_alike s z h a ha = ap₂ (λ x y. not x && y) (ap (ltb 0) (h.left a ha)) (every_same n.channels _ _ (λ c hc. rw (h.tokens c hc, h.free c hc)))

  pub start_alike : (time : ℕ → ℕ) (s z : State) → Alike n s z → Alike n (start n time s) (start n time z)
  start_alike time s z h = record {
    tokens = λ c hc. rw (ready_alike s z h (n.dest c) (sound.dest_in c hc), h.tokens c hc);
    free = λ c hc. rw (ready_alike s z h (n.source c) (sound.source_in c hc), h.free c hc);
    left = λ a ha. rw (ready_alike s z h a ha, h.left a ha);
  }

  module _ (left left' : ℕ → ℕ) (s z : State) (h : Alike n s z) (k : (a : ℕ) → a < n.actors → left a ≡ left' a) where
    ends_alike : (a : ℕ) → a < n.actors → ends s left a ≡ ends z left' a
    ends_alike a ha = ap₂ (λ x y. ltb 0 x && eqb y 0) (h.left a ha) (k a ha)

    pub finish_alike : Alike n (finish n left s) (finish n left' z)
    finish_alike = record {
      tokens = λ c hc. ap₂ (λ x b. x + when b (n.p c)) (h.tokens c hc) (ends_alike (n.source c) (sound.source_in c hc));
      free = λ c hc. ap₂ (λ x b. x + when b (n.q c)) (h.free c hc) (ends_alike (n.dest c) (sound.dest_in c hc));
      left = k;
    }

    -- the same firings end
    pub finish_gain : (a : ℕ) → a < n.actors → (finish n left s).ended a + z.ended a ≡ (finish n left' z).ended a + s.ended a
    finish_gain a ha = omega (arith, ap (λ b. when b 1) (ends_alike a ha))

  pub tick_matches : (time left left' : ℕ → ℕ) (s z : State) → Matches n s z → ((a : ℕ) → a < n.actors → left a ≡ left' a) →
      Matches n (tick n time left s) (tick n time left' z)
  tick_matches time left left' s z h k = record {
    alike = start_alike time _ _ (finish_alike left left' s z h.alike k);
    ended = λ a ha. omega (arith, finish_gain left left' s z h.alike k a ha, h.ended a ha);
  }

  -- a state that matches the run at t comes, by a tick, to one that matches it at the next
  pub next_matches : (time : ℕ → ℕ) (s z : State) (t : ℕ) → Matches n z (next n time s) → Matches n s (run n time t) → Matches n z (run n time (t + 1))
  next_matches time s z t h k =
      let e = tick_matches time (fallen s) (fallen (run n time t)) s (run n time t) k (λ a ha. ap (λ x. x - 1) (k.alike.left a ha)) in
      rw add-one (record { alike = alike_trans n _ _ _ h.alike e.alike; ended = λ a ha. h.ended a ha ∙ e.ended a ha })

  -- and one that starts from the initial state matches it at tick 0
  pub first_matches : (time : ℕ → ℕ) (s z : State) → Alike n z (start n time s) → Alike n s (initial_state n) → ((a : ℕ) → a < n.actors → z.ended a ≡ 0) → Matches n z (run n time 0)
  first_matches time s z h k none = record { alike = alike_trans n _ _ _ h (start_alike time _ _ k); ended = none }

  -- the pace of a state is that of the states that match it
  module _ (time promise : ℕ → ℕ) (t : ℕ) (z s : State) (due : ℕ → ℕ) (h : Matches n z s) where
    same_started : (a : ℕ) → a < n.actors → started z a ≡ started s a
    same_started a ha = ap₂ (λ e l. e + when (ltb 0 l) 1) (h.ended a ha) (h.alike.left a ha)

    pub paced_matches : Paced n time promise t s due → Paced n time promise t z due
    paced_matches p = record {
      balanced = record {
        tokens = λ c hc. rw (h.alike.tokens c hc, same_started (n.dest c) (sound.dest_in c hc), h.ended (n.source c) (sound.source_in c hc)) (p.balanced.tokens c hc);
        free = λ c hc. rw (h.alike.free c hc, same_started (n.source c) (sound.source_in c hc), h.ended (n.dest c) (sound.dest_in c hc)) (p.balanced.free c hc);
      };
      behind = λ a ha. rw (same_started a ha, h.alike.left a ha) (p.behind a ha);
      ahead = λ a ha. rw (same_started a ha) (p.ahead a ha);
    }
