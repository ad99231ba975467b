-- Between two ends of firings nothing changes but ticks left, so that a run may go from one end to the next in one step. Assumes nothing.
use Rattle.std.proofs.Common.{◌≡◌, ℕ, zero, suc, ◌+◌, ◌-◌, ◌%◌, ◌<◌, ◌≤◌, Bool, true, false, not, ◌&&◌, eqb, ltb, List, sym, refl, ap, ◌∙◌, ap₂, inl, inr, add-zero, add-suc, arith}
use Rattle.std.proofs.lemmas.Bool.{le-ltb}
use Rattle.std.proofs.lemmas.Bool.Decides.{nat_tests}
use Rattle.model.specs.Net.{Net, Sound, Timed, State, when, every, lets, started, ready, start, ends, finish, tick, fallen, next, run}
use Rattle.model.specs.Likeness.{Matches}
use Rattle.model.specs.Rate.{late, on, sample_due, says, rated}
use Rattle.model.proofs.Alikes.{matches_trans, ready_alike, start_alike, tick_matches}
use Rattle.model.proofs.Balance.{run_balanced}
use Rattle.model.proofs.Runs.{run_again}
use Rattle.model.proofs.Standing.{blocked_not}
use Rattle.model.proofs.Steps.{step_on, step_last}
use Rattle.model.proofs.Verdicts.{says_on, still_not}

-- a state with so many ticks fewer left of each firing
abbrev pub later : State → ℕ → State
later s j = record { tokens = s.tokens; free = s.free; left = λ a. s.left a - j; ended = s.ended }

-- a firing with w ticks left or more is under way while fewer than w pass
busy_still : (l j w : ℕ) → (0 < l → w ≤ l) → j < w → ltb 0 (l - j) ≡ ltb 0 l
busy_still l j w long lt = grind (arith, nat_tests)

ends_not : (l j w : ℕ) → (0 < l → w ≤ l) → suc j < w → (ltb 0 (l - j) && eqb (l - j - 1) 0) ≡ false
ends_not l j w long lt = grind (arith, nat_tests)

ends_then : (l v : ℕ) → (0 < l → suc v ≤ l) → (ltb 0 (l - v) && eqb (l - v - 1) 0) ≡ (ltb 0 l && eqb (l - suc v) 0)
ends_then l v long = grind (arith, nat_tests)

up_one : (b : Bool) (e : ℕ) → ltb e (e + when b 1) ≡ b
up_one true e = grind (arith, nat_tests)
up_one false e = grind (arith, nat_tests)

busy_waits : (n : Net) (s : State) (a : ℕ) → s.ended a < started s a → ready n s a ≡ false
busy_waits n s a h = grind (arith, nat_tests)

module _ (n : Net) (sound : Sound n) (time : ℕ → ℕ) where
  start_none : (s : State) → ((a : ℕ) → a < n.actors → ready n s a ≡ false) → Matches n (start n time s) s
  start_none s none = record {
    alike = record {
      tokens = λ c hc. rw (none (n.dest c) (sound.dest_in c hc)) (omega arith);
      free = λ c hc. rw (none (n.source c) (sound.source_in c hc)) (omega arith);
      left = λ a ha. rw (none a ha) refl;
    };
    ended = λ a ha. refl;
  }

  -- the same firings end, and as many ticks are left
  finish_matches : (s z : State) (left left' : ℕ → ℕ) → ((c : ℕ) → c < n.channels → s.tokens c ≡ z.tokens c) → ((c : ℕ) → c < n.channels → s.free c ≡ z.free c) →
      ((a : ℕ) → a < n.actors → s.ended a ≡ z.ended a) → ((a : ℕ) → a < n.actors → ends s left a ≡ ends z left' a) →
      ((a : ℕ) → a < n.actors → left a ≡ left' a) → Matches n (finish n left s) (finish n left' z)
  finish_matches s z left left' tokens free ended same falls = record {
    alike = record {
      tokens = λ c hc. ap₂ (λ x b. x + when b (n.p c)) (tokens c hc) (same (n.source c) (sound.source_in c hc));
      free = λ c hc. ap₂ (λ x b. x + when b (n.q c)) (free c hc) (same (n.dest c) (sound.dest_in c hc));
      left = falls;
    };
    ended = λ a ha. ap₂ (λ x b. x + when b 1) (ended a ha) (same a ha);
  }

  module _ (pos : Timed n time) (t w : ℕ) (long : (a : ℕ) → a < n.actors → 0 < (run n time t).left a → w ≤ (run n time t).left a) where
    abbrev s : State
    s = run n time t

    none_ready : (a : ℕ) → a < n.actors → ready n s a ≡ false
    none_ready a ha = elim (run_again n sound time pos t a ha) [
      | inl at_work ↦ busy_waits n s a at_work
      | inr why ↦ blocked_not n sound s (run_balanced n sound time pos t) a why
    ]

    -- one more tick at which nothing ends
    calm : (j : ℕ) → suc j < w → Matches n (next n time (later s j)) (later s (suc j))
    calm j lt =
        let f : Matches n (finish n (fallen (later s j)) (later s j)) (later s (suc j)) = record {
          alike = record {
            tokens = λ c hc. rw (ends_not (s.left (n.source c)) j w (long _ (sound.source_in c hc)) lt) (omega arith);
            free = λ c hc. rw (ends_not (s.left (n.dest c)) j w (long _ (sound.dest_in c hc)) lt) (omega arith);
            left = λ a ha. omega arith;
          };
          ended = λ a ha. rw (ends_not (s.left a) j w (long a ha) lt) (omega arith);
        } in
        let none : (a : ℕ) → a < n.actors → ready n (finish n (fallen (later s j)) (later s j)) a ≡ false = λ a ha.
        ready_alike n sound _ _ f.alike a ha ∙ (ap (λ b. not b && every n.channels (lets n s a)) (busy_still (s.left a) (suc j) w (long a ha) lt) ∙ none_ready a ha) in
        matches_trans n _ _ _ (start_none _ none) f

    onward : (j : ℕ) → Matches n (run n time (t + j)) (later s j) → Matches n (run n time (suc (t + j))) (next n time (later s j))
    onward j k = tick_matches n sound time (fallen (run n time (t + j))) (fallen (later s j)) (run n time (t + j)) (later s j) k (λ a ha. ap (λ x. x - 1) (k.alike.left a ha))

    -- before w ticks have passed, only ticks left have fallen
    pub quiet : (j : ℕ) → j < w → Matches n (run n time (t + j)) (later s j)
    quiet zero lt = rw add-zero (record { alike = record { tokens = λ c hc. refl; free = λ c hc. refl; left = λ a ha. omega arith }; ended = λ a ha. refl })
    quiet (suc j) lt = rw add-suc (matches_trans n _ _ _ (onward j (quiet j (omega arith))) (calm j lt))

    landing : (v : ℕ) → suc v ≡ w → Matches n (run n time (suc (t + v))) (tick n time (λ a. s.left a - suc v) s)
    landing v e =
        let f = finish_matches (later s v) s (fallen (later s v)) (λ a. s.left a - suc v) (λ c hc. refl) (λ c hc. refl) (λ a ha. refl)
        (λ a ha. ends_then (s.left a) v (λ l. omega (arith, long a ha l))) (λ a ha. omega arith) in
        matches_trans n _ _ _ (onward v (quiet v (omega arith))) (record { alike = start_alike n sound time _ _ f.alike; ended = f.ended })

    -- and when they have, the run has come to what one step makes of it
    pub leap : 0 < w → Matches n (run n time (t + w)) (tick n time (λ a. s.left a - w) s)
    leap some = by w refl some
      where
        by : (v : ℕ) → v ≡ w → 0 < v → Matches n (run n time (t + v)) (tick n time (λ a. s.left a - v) s)
        by zero e h = absurd (omega arith)
        by (suc v) e h = rw add-suc (landing v e)

    module _ (some : 0 < n.actors) (rep : ℕ) where
      -- a sample is due then where actor 0's count has come to a multiple
      pub due_then : 0 < w → (ends s (λ a. s.left a - w) 0 && eqb ((run n time (t + w)).ended 0 % rep) 0) ≡ sample_due n time rep (t + w)
      due_then = by w refl
        where
          by : (v : ℕ) → v ≡ w → 0 < v → (ends s (λ a. s.left a - v) 0 && eqb ((run n time (t + v)).ended 0 % rep) 0) ≡ sample_due n time rep (t + v)
          by zero e h = absurd (omega arith)
          by (suc v) e h =
              let up : ltb ((run n time (t + v)).ended 0) ((run n time (suc (t + v))).ended 0) ≡ ends s (λ a. s.left a - suc v) 0 =
              ap₂ ltb ((quiet v (omega arith)).ended 0 some) ((landing v e).ended 0 some) ∙ up_one (ends s (λ a. s.left a - suc v) 0) (s.ended 0) in
              rw add-suc (ap (λ x. x && eqb ((run n time (suc (t + v))).ended 0 % rep) 0) (sym up))

      -- no count has risen meanwhile
      not_due : (j : ℕ) → suc j < w → sample_due n time rep (suc (t + j)) ≡ false
      not_due j lt =
          let e : (run n time (suc (t + j))).ended 0 ≡ (run n time (t + j)).ended 0 = (rw add-suc at ((quiet (suc j) lt).ended 0 some)) ∙ sym ((quiet j (omega arith)).ended 0 some) in
          ap (λ x. x && eqb ((run n time (suc (t + j))).ended 0 % rep) 0) (le-ltb ((run n time (t + j)).ended 0) ((run n time (suc (t + j))).ended 0) (omega arith))

      module _ (room a : ℕ) (ha : a < n.actors) (under-way : 0 < s.left a) (taken : List ℕ) where
        quiet_says : (j : ℕ) → suc j < w → says n time rep room (t + suc j) taken ≡ on
        quiet_says j lt = rw add-suc (says_on n time rep room (suc (t + j)) taken
            (still_not n (run n time (suc (t + j))) a ha (let k = rw add-suc at ((quiet (suc j) lt).alike.left a ha) in omega (arith, long a ha under-way)))
            (not_due j lt))

        -- so rate may leave these ticks out
        pub skip : (last j : ℕ) → j < w → t + suc j ≤ last → rated n time rep room (last - (t + 1)) (t + 1) taken ≡ rated n time rep room (last - (t + suc j)) (t + suc j) taken
        skip last zero lt early = refl
        skip last (suc j) lt early = skip last j (omega arith) (omega arith) ∙
            (let e : t + suc j + 1 ≡ t + suc (suc j) = omega arith in rw e at (step_on n time rep room last (t + suc j) taken (omega arith) (quiet_says j lt)))

        pub skip_late : (last : ℕ) → t < last → last < t + w → rated n time rep room (last - (t + 1)) (t + 1) taken ≡ record { answer = late; taken = taken }
        skip_late last lt far =
            let j = last - t - 1 in
            let e : t + suc j ≡ last = omega arith in
            skip last j (omega arith) (omega arith) ∙ step_last n time rep room last (t + suc j) taken (omega arith) (quiet_says j (omega arith))
