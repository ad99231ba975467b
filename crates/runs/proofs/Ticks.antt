-- What the loops of a tick come to. Assumes nothing.
use Rattle.std.proofs.Common.{◌≡◌, ℕ, ◌+◌, ◌-◌, ◌<◌, ◌≤◌, ◌↔◌, IsTrue, inl, inr, Bool, true, false, cond, not, ltb, ◌&&◌, eqb, List, sym, refl, ap, ◌∙◌, ap₂, ⊎_elim, arith}
use Rattle.std.proofs.lemmas.Bool.{cases_Bool, cases_lt, true≢false}
use Rattle.std.proofs.lemmas.Bool.Decides.{nat_tests}
use Rattle.graph.specs.declared.channel.Channel.{Channel}
use Rattle.model.specs.Net.{Net, State, Timed, when, busy, every, start, ends, finish, initial_state, tick, fallen, next, run}
use Rattle.model.specs.Likeness.{Matches}
use Rattle.model.proofs.Balance.{run_balanced, capacity_whole}
use Rattle.model.proofs.Every.{every_from, every_true}
use Rattle.model.proofs.Ready.{has_tokens, has_places}
use Rattle.model.proofs.Runs.{run_few}
use Rattle.model.proofs.Alikes.{alike_trans, start_alike, tick_matches}
use Rattle.runs.specs.Nets.{net_of, at, taken}
use Rattle.runs.specs.Loops.{flag, Bounded, Fitting, Roomy, Countable, Marked, Takes, Taken, Begun, Served, Given}
use Rattle.runs.specs.Standings.{Vacant}

-- the firings of a run take the ticks that fall
pub taken_falls : (s : State) (a : ℕ) → taken s (fallen s) a ≡ fallen s a
taken_falls s a = grind (arith, nat_tests)

at_most_one : (b : Bool) → when b 1 ≤ 1
at_most_one true = omega arith
at_most_one false = omega arith

-- over any actors and channels that fit
module _ (n : ℕ) (cs : List Channel) (fit : Fitting n cs) where
  abbrev g : Net
  g = net_of n cs

  pub bounded : Bounded cs
  bounded = (fit.few.1, λ c hc. (omega (arith, fit.few, fit.sound.source_in c hc), omega (arith, fit.few, fit.sound.dest_in c hc)))

  -- the ready actors start
  module _ (s : State) (go : List Bool) (h : Marked g.channels g.actors cs s go) where
    pub takes : Takes cs go s
    takes = record {
      tokens = λ c hc t. has_tokens g s c hc (sym (h.are (g.dest c) (fit.sound.dest_in c hc)) ∙ t);
      places = λ c hc t. has_places g s c hc (sym (h.are (g.source c) (fit.sound.source_in c hc)) ∙ t);
    }

    module _ (times : List ℕ) (z w : State) (t : Taken g.channels cs go s z) (b : Begun g.actors times go z w) where
      pub starts : Matches g w (start g (at times) s)
      starts = record {
        alike = record {
          tokens = λ c hc. ap (λ f. f c) b.tokens ∙ t.tokens_are c hc ∙ ap (λ x. s.tokens c - when x (g.q c)) (h.are (g.dest c) (fit.sound.dest_in c hc));
          free = λ c hc. ap (λ f. f c) b.free ∙ t.free_are c hc ∙ ap (λ x. s.free c - when x (g.p c)) (h.are (g.source c) (fit.sound.source_in c hc));
          left = λ a ha. b.left_are a ha ∙ ap₂ (λ x f. cond x (at times a) (f a)) (h.are a ha) t.left;
        };
        ended = λ a ha. b.ended a ∙ ap (λ f. f a) t.ended;
      }

      pub starts_counts : (a : ℕ) → w.ended a ≡ s.ended a
      starts_counts a = b.ended a ∙ ap (λ f. f a) t.ended

      pub starts_vacant : Vacant g s → Vacant g w
      starts_vacant v = (
        λ c hc. (ap (λ f. f c) b.tokens ∙ t.tokens_stay c hc ∙ (v.0 c hc).0, ap (λ f. f c) b.free ∙ t.free_stay c hc ∙ (v.0 c hc).1),
        λ a ha. (b.left_stay a ha ∙ ap (λ f. f a) t.left ∙ (v.1 a ha).0, b.ended a ∙ ap (λ f. f a) t.ended ∙ (v.1 a ha).1),
      )

  -- firings end
  module _ (left : List ℕ) (s z w : State) (done : List Bool) (f : Served g.actors left s z done) (v : Given g.channels cs done z w) where
    pub finish_ends : (a : ℕ) → a < g.actors → flag done a ≡ ends s (taken s (at left)) a
    finish_ends a ha = f.done_are a ha

    pub finishes : Matches g w (finish g (taken s (at left)) s)
    finishes = record {
      alike = record {
        tokens = λ c hc. v.tokens_are c hc ∙ ap₂ (λ t b. t c + when b (g.p c)) f.tokens (finish_ends (g.source c) (fit.sound.source_in c hc));
        free = λ c hc. v.free_are c hc ∙ ap₂ (λ t b. t c + when b (g.q c)) f.free (finish_ends (g.dest c) (fit.sound.dest_in c hc));
        left = λ a ha. ap (λ t. t a) v.left ∙ f.left_are a ha;
      };
      ended = λ a ha. ap (λ t. t a) v.ended ∙ f.ended_are a ha;
    }

    pub finishes_counts : (a : ℕ) → w.ended a ≤ s.ended a + 1
    finishes_counts a =
        ⊎_elim (λ lt. omega (arith, ap (λ t. t a) v.ended, f.ended_are a lt, at_most_one (ends s (taken s (at left)) a)))
        (λ ge. omega (arith, ap (λ t. t a) v.ended, f.ended_stay a ge)) (cases_lt a g.actors)

    pub finishes_vacant : Vacant g s → Vacant g w
    finishes_vacant e = (
      λ c hc. (v.tokens_stay c hc ∙ ap (λ t. t c) f.tokens ∙ (e.0 c hc).0, v.free_stay c hc ∙ ap (λ t. t c) f.free ∙ (e.0 c hc).1),
      λ a ha. (ap (λ t. t a) v.left ∙ f.left_stay a ha ∙ (e.1 a ha).0, ap (λ t. t a) v.ended ∙ f.ended_stay a ha ∙ (e.1 a ha).1),
    )

  module _ (time : ℕ → ℕ) where
    -- starts from what stands before tick 0
    pub first : (s z : State) → Matches g s (initial_state g) → Matches g z (start g time s) → Matches g z (run g time 0)
    first s z b st = record {
      alike = alike_trans g _ _ _ st.alike (start_alike g fit.sound time _ _ b.alike);
      ended = λ a ha. st.ended a ha ∙ b.ended a ha;
    }

    -- ends, and then starts
    pub goes : (new : ℕ → ℕ) (s m z : State) → Matches g m (finish g new s) → Matches g z (start g time m) → Matches g z (tick g time new s)
    goes new s m z f st = record {
      alike = alike_trans g _ _ _ st.alike (start_alike g fit.sound time _ _ f.alike);
      ended = λ a ha. st.ended a ha ∙ f.ended a ha;
    }

  -- with the ticks that fall
  module _ (left times : List ℕ) (s z : State) (falls : (a : ℕ) → a < g.actors → at left a ≡ fallen s a) where
    falling : (a : ℕ) → a < g.actors → taken s (at left) a ≡ fallen s a
    falling a ha = ap (λ l. cond (busy s a) l 0) (falls a ha) ∙ taken_falls s a

    pub next_ends : (a : ℕ) → a < g.actors → ends s (taken s (at left)) a ≡ ends s (fallen s) a
    next_ends a ha = ap (λ l. busy s a && eqb l 0) (falling a ha)

    pub next_follows : Matches g z (tick g (at times) (taken s (at left)) s) → Matches g z (next g (at times) s)
    next_follows h =
        let e = tick_matches g fit.sound (at times) (taken s (at left)) (fallen s) s s
        (record { alike = record { tokens = λ c hc. refl; free = λ c hc. refl; left = λ a ha. refl }; ended = λ a ha. refl }) falling in
        record { alike = alike_trans g _ _ _ h.alike e.alike; ended = λ a ha. h.ended a ha ∙ e.ended a ha }

  -- what stands in a run from tick 0 on has room for what a tick puts there, as `step` and `next` ask
  module _ (time : ℕ → ℕ) (pos : Timed g time) (t : ℕ) (s : State) (h : Matches g s (run g time t)) where
    pub run_roomy : Roomy cs s
    run_roomy c hc =
        let whole = capacity_whole g fit.sound (run g time t) (run_balanced g fit.sound time pos t) c hc in
        let tokens = h.alike.tokens c hc in
        let free = h.alike.free c hc in
        let most = fit.small c hc in
        (omega arith, omega arith)

    pub run_countable : t ≤ 10_000_000 → Countable n s
    run_countable early a ha = omega (arith, h.ended a ha, run_few g fit.sound time pos t a ha)

-- nothing is under way where every actor has no ticks left
idle_not : (l : ℕ) → l ≡ 0 → not (ltb 0 l) ≡ true
idle_not l e = grind (arith, nat_tests)

not_idle : (l : ℕ) → not (ltb 0 l) ≡ true → l ≡ 0
not_idle l e = grind (arith, nat_tests)

pub still : (n : ℕ) (s : State) (b : Bool) → (IsTrue b ↔ ((a : ℕ) → a < n → s.left a ≡ 0)) → b ≡ every n (λ a. not (busy s a))
still n s true h = sym (every_from n _ (λ a lt. idle_not (s.left a) (h.0 refl a lt)))
still n s false h =
    elim (cases_Bool (every n (λ a. not (busy s a)))) [
      | inl e ↦ absurd (true≢false (sym (h.1 (λ a lt. not_idle (s.left a) (every_true n _ e a lt)))))
      | inr e ↦ sym e
    ]
