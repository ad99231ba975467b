-- The verdict of rate at each tick, by what stands there. Assumes nothing.
use Rattle.std.proofs.Common.{◌≡◌, ℕ, zero, suc, ◌+◌, ◌-◌, ◌%◌, ◌<◌, ◌≤◌, Bool, true, false, cond, not, ◌&&◌, eqb, ltb, List, [], ◌∷◌, length, get_or, refl, ap, ◌∙◌, inl, inr, add-one, arith}
use Rattle.std.proofs.lemmas.Bool.{cases_Bool, cond-true, cond-false, and_parts, and_from, eqb-true, eq-eqb, ltb-false, lt-ltb, le-ltb, not-true}
use Rattle.std.proofs.lemmas.Bool.Decides.{nat_tests}
use Rattle.model.specs.Net.{Net, State, every, busy, run}
use Rattle.model.specs.Likeness.{Same}
use Rattle.model.specs.Rate.{standstill, repeats, no_row, on, takes_row, answers, same, still, sample_due, first_same, sample_says, says}
use Rattle.model.proofs.Every.{every_true, every_from, every_stop}

pub same_true : (n : Net) (s z : State) → same n s z ≡ true → Same n s z
same_true n s z h =
    let (t, l) = and_parts (every n.channels (λ c. eqb (s.tokens c) (z.tokens c))) (every n.actors (λ a. eqb (s.left a) (z.left a))) h in
    record {
      tokens = λ c hc. eqb-true _ _ (every_true n.channels (λ c. eqb (s.tokens c) (z.tokens c)) t c hc);
      left = λ a ha. eqb-true _ _ (every_true n.actors (λ a. eqb (s.left a) (z.left a)) l a ha);
    }

pub same_from : (n : Net) (s z : State) → Same n s z → same n s z ≡ true
same_from n s z h =
    and_from _ _ (every_from n.channels (λ c. eqb (s.tokens c) (z.tokens c)) (λ c hc. eq-eqb _ _ (h.tokens c hc)))
    (every_from n.actors (λ a. eqb (s.left a) (z.left a)) (λ a ha. eq-eqb _ _ (h.left a ha)))

pub same_not : (n : Net) (s z : State) → (Same n s z → ⊥) → same n s z ≡ false
same_not n s z h = elim (cases_Bool (same n s z)) [ inl is ↦ absurd (h (same_true n s z is)) | inr no_same ↦ no_same ]

pub still_true : (n : Net) (s : State) → still n s ≡ true → (a : ℕ) → a < n.actors → s.left a ≡ 0
still_true n s h a ha = let k : busy s a ≡ false = not-true _ (every_true n.actors (λ a. not (busy s a)) h a ha) in omega (arith, ltb-false 0 (s.left a) k)

pub still_from : (n : Net) (s : State) → ((a : ℕ) → a < n.actors → s.left a ≡ 0) → still n s ≡ true
still_from n s h = every_from n.actors (λ a. not (busy s a)) (λ a ha. let k = h a ha in grind (arith, nat_tests))

pub still_not : (n : Net) (s : State) (a : ℕ) → a < n.actors → 0 < s.left a → still n s ≡ false
still_not n s a ha h = every_stop (λ a. not (busy s a)) n.actors a ha (grind (arith, nat_tests))

module _ (n : Net) (time : ℕ → ℕ) (t : ℕ) where
  -- the tick of row r of the rows taken is the same as tick t
  abbrev pub same_at : List ℕ → ℕ → Bool
  same_at taken r = same n (run n time (get_or taken r 0)) (run n time t)

  pub first_same_is : (taken : List ℕ) → first_same n time t taken < length taken → same_at taken (first_same n time t taken) ≡ true
  first_same_is [] h = absurd (omega arith)
  first_same_is (f ∷ taken) h = by (first_same_is taken) (same n (run n time f) (run n time t)) refl h
    where
      by : (first_same n time t taken < length taken → same_at taken (first_same n time t taken) ≡ true) → (b : Bool) → same n (run n time f) (run n time t) ≡ b →
          cond b 0 (suc (first_same n time t taken)) < suc (length taken) → same_at (f ∷ taken) (cond b 0 (suc (first_same n time t taken))) ≡ true
      by rest true is k = is
      by rest false is k = rest (omega arith)

  pub first_same_at : (taken : List ℕ) (r : ℕ) → r < length taken → same_at taken r ≡ true → ((j : ℕ) → j < r → same_at taken j ≡ false) → first_same n time t taken ≡ r
  first_same_at [] r lt is none = absurd (omega arith)
  first_same_at (f ∷ taken) zero lt is none = cond-true _ _ _ is
  first_same_at (f ∷ taken) (suc r) lt is none =
      cond-false _ _ _ (none 0 (omega arith)) ∙ ap suc (first_same_at taken r (omega arith) is (λ j h. none (suc j) (omega arith)))

  pub first_same_none : (taken : List ℕ) → ((j : ℕ) → j < length taken → same_at taken j ≡ false) → first_same n time t taken ≡ length taken
  first_same_none [] none = refl
  first_same_none (f ∷ taken) none = cond-false _ _ _ (none 0 (omega arith)) ∙ ap suc (first_same_none taken (λ j h. none (suc j) (omega arith)))

module _ (n : Net) (time : ℕ → ℕ) (rep room t : ℕ) (taken : List ℕ) where
  pub says_standstill : still n (run n time t) ≡ true → says n time rep room t taken ≡ answers (standstill t)
  unfolding says
  says_standstill h = cond-true _ _ _ h

  pub says_on : still n (run n time t) ≡ false → sample_due n time rep t ≡ false → says n time rep room t taken ≡ on
  unfolding says
  says_on h d = cond-false _ _ _ h ∙ cond-false _ _ _ d

  module _ (h : still n (run n time t) ≡ false) (d : sample_due n time rep t ≡ true) where
    says_sample : says n time rep room t taken ≡ sample_says n time room t taken
    unfolding says
    says_sample = cond-false _ _ _ h ∙ cond-true _ _ _ d

    -- row r is the first that is the same
    pub says_repeats : (r : ℕ) → r < length taken → same_at n time t taken r ≡ true → ((j : ℕ) → j < r → same_at n time t taken j ≡ false) →
        says n time rep room t taken ≡ answers (repeats (get_or taken r 0) (t - get_or taken r 0) (length taken - r))
    says_repeats r lt is none =
        let e = first_same_at n time t taken r lt is none in
        says_sample ∙ cond-true _ _ _ (lt-ltb (first_same n time t taken) (length taken) (omega arith)) ∙ ap (λ x. answers (repeats (get_or taken x 0) (t - get_or taken x 0) (length taken - x))) e

    module _ (none : (j : ℕ) → j < length taken → same_at n time t taken j ≡ false) where
      says_new : says n time rep room t taken ≡ cond (ltb (length taken) room) takes_row (answers no_row)
      says_new = says_sample ∙ cond-false _ _ _ (le-ltb (first_same n time t taken) (length taken) (omega (arith, first_same_none n time t taken none)))

      pub says_takes_row : length taken < room → says n time rep room t taken ≡ takes_row
      says_takes_row spare = says_new ∙ cond-true _ _ _ (lt-ltb _ _ spare)

      pub says_no_row : room ≤ length taken → says n time rep room t taken ≡ answers no_row
      says_no_row full = says_new ∙ cond-false _ _ _ (le-ltb _ _ full)

-- a sample is due where actor 0's count has come to a multiple
pub due_later : (n : Net) (time : ℕ → ℕ) (rep t : ℕ) →
    sample_due n time rep (t + 1) ≡ (ltb ((run n time t).ended 0) ((run n time (t + 1)).ended 0) && eqb ((run n time (t + 1)).ended 0 % rep) 0)
due_later n time rep t = rw add-one
