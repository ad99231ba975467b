-- The firings started and ended account for the tokens and the free places. Assumes nothing.
use Rattle.std.proofs.Common.{◌≡◌, ℕ, zero, suc, ◌+◌, ◌-◌, ◌*◌, ◌<◌, ◌≤◌, Bool, true, false, refl, mul-zero, mul-one, arith}
use Rattle.std.proofs.lemmas.Bool.Decides.{nat_tests}
use Rattle.model.specs.Net.{Net, Sound, Timed, State, when, busy, started, ready, start, ends, finish, tick, initial_state, fallen, run}
use Rattle.model.specs.Laws.{Balanced}
use Rattle.model.proofs.Ready.{has_tokens, has_places}

times_when : (b : Bool) (p : ℕ) → p * when b 1 ≡ when b p
times_when true p = mul-one p
times_when false p = mul-zero p

-- with one more firing ended, that many more
more : (b : Bool) (x y i p e : ℕ) → x + y ≡ i + p * e → x + when b p + y ≡ i + p * (e + when b 1)
more b x y i p e h = omega (arith, times_when b p)

-- with one more firing started, that many fewer
less : (b : Bool) (x q k i : ℕ) → (b ≡ true → q ≤ x) → x + q * k ≡ i → x - when b q + q * (k + when b 1) ≡ i
less true x q k i has h = omega (arith, has refl)
less false x q k i has h = omega arith

module _ (n : Net) where
  pub finish_started : (left : ℕ → ℕ) (s : State) (a : ℕ) → left a ≤ s.left a → started (finish n left s) a ≡ started s a
  finish_started left s a h = grind (arith, nat_tests)

  pub start_started : (time : ℕ → ℕ) (s : State) (a : ℕ) → 0 < time a → started (start n time s) a ≡ started s a + when (ready n s a) 1
  start_started time s a h = grind (arith, nat_tests)

  pub initial_balanced : Balanced n (initial_state n)
  initial_balanced = record { tokens = λ c hc. omega arith; free = λ c hc. omega arith }

  module _ (sound : Sound n) where
    pub finish_balanced : (left : ℕ → ℕ) (s : State) → ((a : ℕ) → a < n.actors → left a ≤ s.left a) → Balanced n s → Balanced n (finish n left s)
    finish_balanced left s h b = record {
      tokens = λ c hc. rw (finish_started left s (n.dest c) (h _ (sound.dest_in c hc))) (more (ends s left (n.source c)) _ _ _ _ _ (b.tokens c hc));
      free = λ c hc. rw (finish_started left s (n.source c) (h _ (sound.source_in c hc))) (more (ends s left (n.dest c)) _ _ _ _ _ (b.free c hc));
    }

    module _ (time : ℕ → ℕ) (pos : Timed n time) where
      pub start_balanced : (s : State) → Balanced n s → Balanced n (start n time s)
      start_balanced s b = record {
        tokens = λ c hc. rw (start_started time s (n.dest c) (pos _ (sound.dest_in c hc))) (less (ready n s (n.dest c)) _ _ _ _ (has_tokens n s c hc) (b.tokens c hc));
        free = λ c hc. rw (start_started time s (n.source c) (pos _ (sound.source_in c hc))) (less (ready n s (n.source c)) _ _ _ _ (has_places n s c hc) (b.free c hc));
      }

      pub tick_balanced : (left : ℕ → ℕ) (s : State) → ((a : ℕ) → a < n.actors → left a ≤ s.left a) → Balanced n s → Balanced n (tick n time left s)
      tick_balanced left s falls b = start_balanced (finish n left s) (finish_balanced left s falls b)

      pub run_balanced : (t : ℕ) → Balanced n (run n time t)
      run_balanced zero = start_balanced (initial_state n) initial_balanced
      run_balanced (suc t) = tick_balanced (fallen (run n time t)) (run n time t) (λ a ha. omega arith) (run_balanced t)

    -- tokens, free places, places that the source's firing has claimed and tokens that the destination's has in use make up the capacity
    pub capacity_whole : (s : State) → Balanced n s → (c : ℕ) → c < n.channels →
        s.tokens c + s.free c + when (busy s (n.source c)) (n.p c) + when (busy s (n.dest c)) (n.q c) ≡ n.capacity c
    capacity_whole s b c hc =
        omega (arith, sound.fits c hc, b.tokens c hc, b.free c hc, times_when (busy s (n.source c)) (n.p c), times_when (busy s (n.dest c)) (n.q c))
