-- The answers of a story follow from graph, policy and calls, where each call of the policy has one outcome. Assumes nothing.
use Rattle.std.proofs.Common.{◌≡◌, ℕ, zero, suc, ◌+◌, ◌<◌, ◌≤◌, Bool, true, false, cond, ◌&&◌, eqb, ltb, Ok, Err, Result, ◌⊎◌, sym, refl, ap, ◌∙◌, subst, ap₂, inl, inr, arith}
use Rattle.std.proofs.lemmas.Bool.{cases_eq, cases_Bool}
use Rattle.policy.specs.declared.meaning.Policy.{Ghosts}
use Rattle.policy.specs.Meaning.{Alike as AlikeViews, layable}
use Rattle.model.specs.Net.{Net, Sound, ready, ends, finish, initial_state}
use Rattle.model.specs.Likeness.{Matches}
use Rattle.model.proofs.Alikes.{matches_trans, ready_alike, finish_alike, tick_matches}
use Rattle.runs.specs.Seen.{taken}
use Rattle.rates.specs.declared.fault.Fault.{Fault}
use Rattle.rates.specs.declared.fault.Fault.TheVariants.{LastTick, Absent}
use Rattle.rates.specs.Rates.{last_tick}
use Rattle.bench.specs.declared.call.Call.{Call}
use Rattle.bench.specs.declared.call.Call.TheVariants.{Tick, Count, Tokens, Due, Restart}
use Rattle.bench.specs.declared.call.Answer.{Answer}
use Rattle.bench.specs.declared.call.Answer.TheVariants.{Ticked, Counted, Held, Owed, Restarted}
use Rattle.bench.specs.Sharing.{Stand, Asked, Lays, Begins, Ticks, ended_now}
use Rattle.bench.specs.Story.{Serves, Does, ticked, late, counted, no_count, held, no_tokens, owed, no_due, restarted, Story, joined, called}
use Rattle.bench.proofs.Sharings.{matches_sym, many_same}

-- like policies show the same, and each call makes like ones of them
pub record OneOutcome {X : Type 0} (m : Ghosts X) (like : X → X → Type 0) : Type 0 where
  pub shown : (p q : X) → like p q → AlikeViews (m.view q) (m.view p)
  pub ticks : (p p' q q' : X) → like p q → m.ticks p p' → m.ticks q q' → like p' q'
  pub lays : (p p' q q' : X) (a : ℕ) → like p q → m.lays p a p' → m.lays q a q' → like p' q'
  pub clears : (p p' q q' : X) → like p q → m.clears p p' → m.clears q q' → like p' q'

record SameStand {X : Type 0} (n : Net) (like : X → X → Type 0) (z w : Stand X) : Type 0 where
  tick : z.tick ≡ w.tick
  state : Matches n z.state w.state
  policy : like z.policy w.policy

module _ {X : Type 0} (m : Ghosts X) (like : X → X → Type 0) (one : OneOutcome m like) where
  asked_same : (p p' q q' : X) (a : ℕ) → like p q → Asked m p a p' → Asked m q a q' → like p' q'
  asked_same p p' q q' a e x y =
      let v = one.shown p q e in
      let both : layable (m.view p) a ≡ layable (m.view q) a = ap₂ (λ k l. ltb a k && eqb l 0) v.number (v.each a).left in
      elim (cases_Bool (layable (m.view p) a)) [
        | inl can ↦ one.lays p p' q q' a e (x.done can) (y.done (sym both ∙ can))
        | inr cannot ↦ subst (λ (v : X). like v q') (sym (x.refused cannot)) (subst (λ (v : X). like p v) (sym (y.refused (sym both ∙ cannot))) e)
      ]

  lays_like : (go go' : ℕ → Bool) (k : ℕ) (p p' q q' : X) → ((a : ℕ) → a < k → go a ≡ go' a) → like p q → Lays m go k p p' → Lays m go' k q q' → like p' q'
  lays_like go go' zero p p' q q' g e x y = subst (λ (v : X). like v q') (sym x) (subst (λ (v : X). like p v) (sym y) e)
  lays_like go go' (suc k) p p' q q' g e x y = by (lays_like go go' k p x.0 q y.0 (λ a lt. g a (omega arith)) e x.1 y.1) (go k) refl
    where
      by : like x.0 y.0 → (b : Bool) → go k ≡ b → like p' q'
      by i true t = asked_same x.0 p' y.0 q' k i (x.2 t) (y.2 (sym (g k (omega arith)) ∙ t))
      by i false t = subst (λ (v : X). like v q') (sym (x.3 t)) (subst (λ (v : X). like x.0 v) (sym (y.3 (sym (g k (omega arith)) ∙ t))) i)

  module _ (n : Net) (sound : Sound n) (time : ℕ → ℕ) where
    begins_same : (p q : X) (z w : Stand X) → like p q → Begins m n time p z → Begins m n time q w → SameStand n like z w
    begins_same p q z w e x y = record {
      tick = x.first ∙ sym y.first;
      state = matches_trans n _ _ _ x.starts (matches_sym n _ _ y.starts);
      policy = lays_like (ready n (initial_state n)) (ready n (initial_state n)) n.actors x.cleared z.policy y.cleared w.policy (λ a lt. refl)
          (one.clears p x.cleared q y.cleared e x.clears y.clears) x.lays y.lays;
    }

    module _ (b d : Stand X) (q r : X) (z w : Stand X) (s : SameStand n like b d) (x : Ticks m n time b q z) (y : Ticks m n time d r w) where
      served : like q r
      served = one.ticks b.policy q d.policy r s.policy x.serves y.serves

      abbrev lb : ℕ → ℕ
      lb = taken b.state (m.view q).left

      abbrev ld : ℕ → ℕ
      ld = taken d.state (m.view r).left

      left_same : (a : ℕ) → a < n.actors → lb a ≡ ld a
      left_same a ha = ap₂ (λ u v. cond (ltb 0 u) v 0) (s.state.alike.left a ha) ((one.shown q r served).each a).left

      ticks_same : SameStand n like z w
      ticks_same = record {
        tick = x.next ∙ (ap (λ t. t + 1) s.tick ∙ sym y.next);
        state = matches_trans n _ _ _ x.goes (matches_trans n _ _ _ (tick_matches n sound time lb ld b.state d.state s.state left_same) (matches_sym n _ _ y.goes));
        policy = lays_like (ready n (finish n lb b.state)) (ready n (finish n ld d.state)) n.actors q z.policy r w.policy
            (λ a lt. ready_alike n sound _ _ (finish_alike n sound lb ld b.state d.state s.state.alike left_same) a lt) served x.lays y.lays;
      }

      ended_same : ended_now m n b.state q ≡ ended_now m n d.state r
      ended_same = many_same (ends b.state lb) (ends d.state ld) n.actors (λ a ha. ap₂ (λ u v. ltb 0 u && eqb v 0) (s.state.alike.left a ha) (left_same a ha))

    -- a question of a, where k are there, and f says what each has
    abbrev Asks : (ℕ → Answer) → ℕ → (ℕ → ℕ) → ℕ → Result Answer Fault → Type 0
    Asks answer k f a r = ((a < k) × (r ≡ Ok (answer (f a)))) ⊎ ((k ≤ a) × (r ≡ Err Absent))

    asks_same : (answer : ℕ → Answer) (k : ℕ) (f g : ℕ → ℕ) (a : ℕ) (r r' : Result Answer Fault) → (a < k → f a ≡ g a) → Asks answer k f a r → Asks answer k g a r' → r ≡ r'
    asks_same answer k f g a r r' e (inl x) (inl y) = x.1 ∙ (ap (λ v. Ok (answer v)) (e x.0) ∙ sym y.1)
    asks_same answer k f g a r r' e (inl x) (inr y) = absurd (omega (arith, x.0, y.0))
    asks_same answer k f g a r r' e (inr x) (inl y) = absurd (omega (arith, x.0, y.0))
    asks_same answer k f g a r r' e (inr x) (inr y) = x.1 ∙ sym y.1

    abbrev ByCall : Stand X → Call → Result Answer Fault → Stand X → Type 0
    ByCall b Tick r z = ((q : X) × (b.tick < last_tick) × Ticks m n time b q z × (r ≡ Ok (Ticked z.tick (ended_now m n b.state q))))
        ⊎ ((b.tick ≡ last_tick) × (r ≡ Err LastTick) × (z ≡ b))
    ByCall b (Count a) r z = Asks Counted n.actors b.state.ended a r × (z ≡ b)
    ByCall b (Tokens c) r z = Asks Held n.channels b.state.tokens c r × (z ≡ b)
    ByCall b (Due a) r z = Asks Owed n.actors (m.view b.policy).due a r × (z ≡ b)
    ByCall b Restart r z = (r ≡ Ok Restarted) × Begins m n time b.policy z

    by_call : (b : Stand X) (h : Serves X) {c : Call} {r : Result Answer Fault} {z : Stand X} {h' : Serves X} → Does m n time b h c r z h' → ByCall b c r z
    by_call b h (ticked q z lt t) = inl (q, lt, t, refl)
    by_call b h (late e) = inr (e, refl, refl)
    by_call b h (counted a e) = (inl (e, refl), refl)
    by_call b h (no_count a e) = (inr (e, refl), refl)
    by_call b h (held c e) = (inl (e, refl), refl)
    by_call b h (no_tokens c e) = (inr (e, refl), refl)
    by_call b h (owed a e) = (inl (e, refl), refl)
    by_call b h (no_due a e) = (inr (e, refl), refl)
    by_call b h (restarted z e) = (refl, e)

    stay : (b d z w : Stand X) → SameStand n like b d → z ≡ b → w ≡ d → SameStand n like z w
    stay b d z w s x y = subst (λ (v : Stand X). SameStand n like v w) (sym x) (subst (λ (v : Stand X). SameStand n like b v) (sym y) s)

    by_same : (c : Call) (b d : Stand X) (r r' : Result Answer Fault) (z w : Stand X) → SameStand n like b d → ByCall b c r z → ByCall d c r' w → (r ≡ r') × SameStand n like z w
    by_same Tick b d r r' z w s (inl x) (inl y) =
        let t = ticks_same b d x.0 y.0 z w s x.2 y.2 in
        (x.3 ∙ (ap₂ (λ u v. Ok (Ticked u v)) t.tick (ended_same b d x.0 y.0 z w s x.2 y.2) ∙ sym y.3), t)
    by_same Tick b d r r' z w s (inl x) (inr y) = absurd (omega (arith, s.tick, x.1, y.0))
    by_same Tick b d r r' z w s (inr x) (inl y) = absurd (omega (arith, s.tick, x.0, y.1))
    by_same Tick b d r r' z w s (inr x) (inr y) = (x.1 ∙ sym y.1, stay b d z w s x.2 y.2)
    by_same (Count a) b d r r' z w s x y = (asks_same Counted n.actors b.state.ended d.state.ended a r r' (λ h. s.state.ended a h) x.0 y.0, stay b d z w s x.1 y.1)
    by_same (Tokens c) b d r r' z w s x y = (asks_same Held n.channels b.state.tokens d.state.tokens c r r' (λ h. s.state.alike.tokens c h) x.0 y.0, stay b d z w s x.1 y.1)
    by_same (Due a) b d r r' z w s x y =
        (asks_same Owed n.actors (m.view b.policy).due (m.view d.policy).due a r r' (λ h. ((one.shown b.policy d.policy s.policy).each a).due) x.0 y.0, stay b d z w s x.1 y.1)
    by_same Restart b d r r' z w s x y = (x.0 ∙ sym y.0, begins_same b.policy d.policy z w s.policy x.1 y.1)

    -- a story by its number of calls
    abbrev Reached : X → (ℕ → Call) → (ℕ → Result Answer Fault) → ℕ → Stand X → Type 0
    Reached p call r zero z = Begins m n time p z
    Reached p call r (suc k) z = (b : Stand X) × Reached p call r k b × ByCall b (call k) (r k) z

    reached : (p : X) (call : ℕ → Call) (r : ℕ → Result Answer Fault) {k : ℕ} {h : Serves X} {z : Stand X} → Story m n time p call r k h z → Reached p call r k z
    reached p call r (joined z b kept) = b
    reached p call r (called k h h' b z s d kept) = (b, reached p call r s, by_call b h d)

    reached_same : (p q : X) (call : ℕ → Call) (r r' : ℕ → Result Answer Fault) → like p q → (k : ℕ) (z w : Stand X) → Reached p call r k z → Reached q call r' k w →
        ((j : ℕ) → j < k → r j ≡ r' j) × SameStand n like z w
    reached_same p q call r r' e zero z w x y = ((λ j lt. absurd (omega arith)), begins_same p q z w e x y)
    reached_same p q call r r' e (suc k) z w x y =
        let i = reached_same p q call r r' e k x.0 y.0 x.1 y.1 in
        let o = by_same (call k) x.0 y.0 (r k) (r' k) z w i.1 x.2 y.2 in
        ((λ j lt. elim (cases_eq j k) [ inl same ↦ subst (λ (v : ℕ). r v ≡ r' v) (sym same) o.0 | inr ne ↦ i.0 j (omega arith) ]), o.1)

    pub stories_same : (p q : X) → like p q → (call : ℕ → Call) (r r' : ℕ → Result Answer Fault) (k : ℕ) (h h' : Serves X) (z z' : Stand X) →
        Story m n time p call r k h z → Story m n time q call r' k h' z' → (j : ℕ) → j < k → r' j ≡ r j
    stories_same p q e call r r' k h h' z z' s s' j lt = sym ((reached_same p q call r r' e k z z' (reached p call r s) (reached q call r' s')).0 j lt)
