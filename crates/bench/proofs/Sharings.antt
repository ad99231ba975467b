-- What the loops of a shared tick come to. Assumes nothing.
use Rattle.std.proofs.Common.{◌≡◌, ℕ, zero, suc, ◌+◌, ◌<◌, ◌≤◌, Bool, true, false, cond, ◌&&◌, eqb, ltb, List, length, take, replicate, sym, refl, ap, subst, ◌∙◌, ap₂, add-one, arith}
use Rattle.std.specs.List.{count_by}
use Rattle.std.proofs.lemmas.List.Sums.{count_by_more_yes, count_by_more_no}
use Rattle.std.proofs.lemmas.Bool.Decides.{nat_tests}
use Rattle.policy.specs.declared.meaning.Policy.{Ghosts}
use Rattle.graph.specs.declared.graph.Graph.{Graph}
use Rattle.model.specs.Net.{Net, State, when, busy, ready, start, ends, finish, tick, initial_state, run}
use Rattle.model.specs.Likeness.{Matches}
use Rattle.model.proofs.Ready.{ready_true}
use Rattle.model.proofs.Alikes.{matches_trans, tick_matches}
use Rattle.runs.specs.Seen.{net, at, times_of, taken}
use Rattle.runs.specs.Loops.{flag}
use Rattle.runs.specs.Places.{Whole}
use Rattle.runs.proofs.Graphs.{graph_fitting, graph_timed}
use Rattle.runs.proofs.Places.{first_whole, tick_whole}
use Rattle.bench.specs.Sharing.{Lays, newly, stand, many, Begins, Stepped}

pub matches_refl : (n : Net) (s : State) → Matches n s s
matches_refl n s = record { alike = record { tokens = λ c hc. refl; free = λ c hc. refl; left = λ a ha. refl }; ended = λ a ha. refl }

pub matches_sym : (n : Net) (s z : State) → Matches n s z → Matches n z s
matches_sym n s z h = record {
  alike = record { tokens = λ c hc. sym (h.alike.tokens c hc); free = λ c hc. sym (h.alike.free c hc); left = λ a ha. sym (h.alike.left a ha) };
  ended = λ a ha. sym (h.ended a ha);
}

pub lays_same : {X : Type 0} (m : Ghosts X) (go go' : ℕ → Bool) (k : ℕ) (p q : X) → ((a : ℕ) → a < k → go a ≡ go' a) → Lays m go k p q → Lays m go' k p q
lays_same m go go' zero p q e h = h
lays_same m go go' (suc k) p q e h =
    (h.0, lays_same m go go' k p h.0 (λ a lt. e a (omega arith)) h.1, (λ t. h.2 (e k (omega arith) ∙ t)), (λ t. h.3 (e k (omega arith) ∙ t)))

pub many_same : (f f' : ℕ → Bool) (k : ℕ) → ((a : ℕ) → a < k → f a ≡ f' a) → many f k ≡ many f' k
many_same f f' zero e = refl
many_same f f' (suc k) e = ap₂ (λ x b. x + when b 1) (many_same f f' k (λ a h. e a (omega arith))) (e k (omega arith))

-- a firing has begun exactly of those that were ready
begun_ready : (n : Net) (time : ℕ → ℕ) (s : State) (a : ℕ) → 0 < time a → (eqb (s.left a) 0 && ltb 0 ((start n time s).left a)) ≡ ready n s a
begun_ready n time s a pos = by (ready n s a) (λ e. (ready_true n s a e).0)
  where
    by : (r : Bool) → (r ≡ true → busy s a ≡ false) → (eqb (s.left a) 0 && ltb 0 (cond r (time a) (s.left a))) ≡ r
    by true idle = let e = idle refl in grind (arith, nat_tests)
    by false idle = grind (arith, nat_tests)

-- taken twice is taken once
pub taken_again : (s : State) (left : ℕ → ℕ) (f : ℕ → ℕ) (a : ℕ) → left a ≡ taken s f a → taken s left a ≡ taken s f a
taken_again s left f a e = grind (arith, nat_tests)

-- over a graph, with times that are its own
module _ {X : Type 0} (m : Ghosts X) (g : Graph) (times : ℕ → ℕ) (timed : (a : ℕ) → times a ≡ times_of g a) where
  abbrev n : Net
  n = net g

  abbrev time : ℕ → ℕ
  time = times_of g

  over_time : (P : (ℕ → ℕ) → Type 0) → P times → P time
  over_time P = subst P (λ i a. timed a i)

  pub begun_whole : (w : State) → Matches n w (run n times 0) → Whole n w
  begun_whole w st = first_whole n (graph_fitting g).sound time (graph_timed g) w (over_time (λ t. Matches n w (run n t 0)) st).alike

  pub begins_done : (p q p' : X) (left : ℕ → ℕ) (t : ℕ) (w : State) → t ≡ 0 → Matches n w (run n times 0) → m.clears p q → ((a : ℕ) → left a ≡ 0) →
      Lays m (newly left w) n.actors q p' → Begins m n time p (stand t w p')
  begins_done p q p' left t w first st cl none la =
      let st' = over_time (λ t. Matches n w (run n t 0)) st in
      record {
        cleared = q;
        clears = cl;
        first = first;
        starts = st';
        lays = lays_same m _ _ n.actors q p' (λ a ha. ap₂ (λ x y. eqb x 0 && ltb 0 y) (none a) (st'.alike.left a ha) ∙ begun_ready n time (initial_state n) a (graph_timed g a ha)) la;
      }

  module _ (q : X) (left : ℕ → ℕ) (s w : State) (took : (a : ℕ) → a < n.actors → left a ≡ taken s (m.view q).left a) (st : Matches n w (tick n times (taken s left) s)) where
    abbrev new : ℕ → ℕ
    new = taken s (m.view q).left

    same : (a : ℕ) → a < n.actors → taken s left a ≡ new a
    same a ha = taken_again s left (m.view q).left a (took a ha)

    goes : Matches n w (tick n time new s)
    goes = matches_trans n _ _ _ (over_time (λ t. Matches n w (tick n t (taken s left) s)) st) (tick_matches n (graph_fitting g).sound time (taken s left) new s s (matches_refl n s) same)

    pub goes_whole : Whole n s → Whole n w
    goes_whole whole = tick_whole n (graph_fitting g).sound time (graph_timed g) s w (m.view q).left goes.alike whole

    pub step_done : (p p' : X) (t t' k : ℕ) (done : List Bool) → m.ticks p q → t' ≡ t + 1 → ((a : ℕ) → a < n.actors → flag done a ≡ ends s (taken s left) a) →
        Lays m (newly left w) n.actors q p' → k ≡ many (flag done) n.actors → Stepped m n time (stand t s p) (stand t' w p') k
    step_done p p' t t' k done sv next ended la mk = record {
      served = q;
      ticks = record {
        serves = sv;
        next = next;
        goes = goes;
        lays = lays_same m _ _ n.actors q p' (λ a ha. ap₂ (λ x y. eqb x 0 && ltb 0 y) (took a ha) (goes.alike.left a ha) ∙ begun_ready n time (finish n new s) a (graph_timed g a ha)) la;
      };
      ended = mk ∙ many_same _ _ n.actors (λ a ha. ended a ha ∙ ap (λ l. busy s a && eqb l 0) (same a ha));
    }

-- so many of the first k marks stand
pub many_marked : (bs : List Bool) (k : ℕ) → k ≤ length bs → count_by (λ b. b) (take k bs) ≡ many (flag bs) k
many_marked bs zero h = refl
many_marked bs (suc k) h = by (many_marked bs k (omega arith)) (flag bs k) refl
  where
    by : count_by (λ b. b) (take k bs) ≡ many (flag bs) k → (b : Bool) → flag bs k ≡ b → count_by (λ b. b) (take (suc k) bs) ≡ many (flag bs) (suc k)
    by before true e = let one : when (flag bs k) 1 ≡ 1 = ap (λ b. when b 1) e in omega (arith, rw (add-one k) at (count_by_more_yes (λ b. b) bs k false (omega arith) e))
    by before false e = let none : when (flag bs k) 1 ≡ 0 = ap (λ b. when b 1) e in omega (arith, rw (add-one k) at (count_by_more_no (λ b. b) bs k false (omega arith) e))

pub zeros : (k a : ℕ) → at (replicate k 0) a ≡ 0
zeros zero a = refl
zeros (suc k) zero = refl
zeros (suc k) (suc a) = zeros k a
