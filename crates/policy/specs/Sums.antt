-- The works round to an actor, as sums from actor 0. Assumes nothing.
use Rattle.std.proofs.Common.{◌≡◌, ℕ, zero, suc, ◌+◌, ◌-◌, ◌*◌, ◌<◌, ◌≤◌, cond, eqb, ltb, List, get_or, sym, ap, ◌∙◌, ⊎_elim, add-zero, add-suc, add-one, arith}
use Rattle.std.proofs.lemmas.Bool.{cases_lt, cases_eq, lt-ltb, le-ltb, eq-eqb, ne_eqb, cond-true, cond-false}
use Rattle.policy.specs.Round.{after}
use Rattle.policy.specs.Turns.{total, works_to, round}
use Rattle.policy.specs.Afters.{by_after, after_below}

pub total_next : (ws : List ℕ) (k : ℕ) → total ws (k + 1) ≡ total ws k + get_or ws k 0
total_next ws k = rw add-one

total_add : (ws : List ℕ) (j d : ℕ) → total ws j ≤ total ws (j + d)
total_add ws j zero = rw add-zero (omega arith)
total_add ws j (suc d) = rw add-suc (omega (arith, total_add ws j d))

pub total_mono : (ws : List ℕ) (j k : ℕ) → j ≤ k → total ws j ≤ total ws k
total_mono ws j k h = let e : j + (k - j) ≡ k = omega arith in rw e at (total_add ws j (k - j))

pub total_limit : (ws : List ℕ) → ((a : ℕ) → get_or ws a 0 ≤ 4095) → (k : ℕ) → total ws k ≤ 4095 * k
total_limit ws most zero = omega arith
total_limit ws most (suc k) = omega (arith, total_limit ws most k, most k)

-- the same as `round`, by sums
abbrev pub sums : List ℕ → ℕ → ℕ → ℕ → ℕ
sums ws n t b = cond (ltb t b) (total ws (b + 1) - total ws (t + 1)) ((total ws n - total ws (t + 1)) + total ws (b + 1))

-- how many actors on from t the actor b is; n where b is t
abbrev pub ahead : ℕ → ℕ → ℕ → ℕ
ahead n t b = cond (ltb t b) (b - t) ((b + n) - t)

module _ (ws : List ℕ) (n t b : ℕ) where
  pub sums_on : t < b → sums ws n t b ≡ total ws (b + 1) - total ws (t + 1)
  sums_on h = cond-true _ _ _ (lt-ltb t b h)

  pub sums_back : b ≤ t → sums ws n t b ≡ (total ws n - total ws (t + 1)) + total ws (b + 1)
  sums_back h = cond-false _ _ _ (le-ltb t b h)

module _ (n t b : ℕ) where
  ahead_on : t < b → ahead n t b ≡ b - t
  ahead_on h = cond-true _ _ _ (lt-ltb t b h)

  ahead_back : b ≤ t → ahead n t b ≡ (b + n) - t
  ahead_back h = cond-false _ _ _ (le-ltb t b h)

module _ (n t b : ℕ) (on : t < n) (present : b < n) where
  pub ahead_some : 0 < ahead n t b
  ahead_some = ⊎_elim (λ h. omega (arith, ahead_on n t b h)) (λ h. omega (arith, ahead_back n t b h)) (cases_lt t b)

  pub ahead_most : ahead n t b ≤ n
  ahead_most = ⊎_elim (λ h. omega (arith, ahead_on n t b h)) (λ h. omega (arith, ahead_back n t b h)) (cases_lt t b)

  -- one step on is one less
  pub ahead_step : (b ≡ after n t → ⊥) → ahead n t b ≡ ahead n (after n t) b + 1
  ahead_step =
      by_after n t on (λ x. (b ≡ x → ⊥) → ahead n t b ≡ ahead n x b + 1)
      (λ h o. ⊎_elim
      (λ k. let l : t + 1 < b = omega arith in omega (arith, ahead_on n t b k, ahead_on n (t + 1) b l))
      (λ k. omega (arith, ahead_back n t b k, ahead_back n (t + 1) b (omega arith)))
      (cases_lt t b))
      (λ h o. let l : 0 < b = omega arith in omega (arith, ahead_back n t b (omega arith), ahead_on n 0 b l))

module _ (ws : List ℕ) (n t b : ℕ) (on : t < n) (present : b < n) where
  sums_here : b ≡ after n t → sums ws n t b ≡ get_or ws b 0
  sums_here =
      by_after n t on (λ x. b ≡ x → sums ws n t b ≡ get_or ws b 0)
      (λ h e. omega (arith, sums_on ws n t b (omega arith), total_next ws b, ap (total ws) e))
      (λ h e. omega (arith, sums_back ws n t b (omega arith), total_next ws b, ap (total ws) e, ap (total ws) h))

  -- one step on leaves out one work
  pub sums_step : (b ≡ after n t → ⊥) → sums ws n t b ≡ get_or ws (after n t) 0 + sums ws n (after n t) b
  sums_step =
      by_after n t on (λ x. (b ≡ x → ⊥) → sums ws n t b ≡ get_or ws x 0 + sums ws n x b)
      (λ h o. ⊎_elim
      (λ k.
      let l : t + 1 < b = omega arith in
      omega (arith, sums_on ws n t b k, sums_on ws n (t + 1) b l, total_next ws (t + 1), total_mono ws ((t + 1) + 1) (b + 1) (omega arith)))
      (λ k. omega (arith, sums_back ws n t b k, sums_back ws n (t + 1) b (omega arith), total_next ws (t + 1), total_mono ws ((t + 1) + 1) n (omega arith)))
      (cases_lt t b))
      (λ h o.
      let l : 0 < b = omega arith in
      omega (arith, sums_back ws n t b (omega arith), sums_on ws n 0 b l, total_next ws 0, ap (total ws) h, total_mono ws (0 + 1) (b + 1) (omega arith)))

-- k steps that reach b have gone round to it
works_to_sums : (ws : List ℕ) (n b : ℕ) → b < n → (k t : ℕ) → t < n → ahead n t b ≤ k → works_to ws n t b k ≡ sums ws n t b
works_to_sums ws n b present zero t on h = absurd (omega (arith, ahead_some n t b on present))
works_to_sums ws n b present (suc k) t on h =
    let x = after n t in
    ⊎_elim
    (λ e. omega (arith, cond-true (eqb x b) 0 (works_to ws n x b k) (eq-eqb x b (sym e)), sums_here ws n t b on present e, ap (λ y. get_or ws y 0) e))
    (λ o. omega (
      arith,
      cond-false (eqb x b) 0 (works_to ws n x b k) (ne_eqb x b (λ e. o (sym e))),
      sums_step ws n t b on present o,
      works_to_sums ws n b present k x (after_below n t on) (omega (arith, ahead_step n t b on present o)),
    ))
    (cases_eq b x)

module _ (ws : List ℕ) (n t b : ℕ) (on : t < n) (present : b < n) where
  pub round_sums : round ws n t b ≡ sums ws n t b
  round_sums = works_to_sums ws n b present n t on (ahead_most n t b on present)

  pub round_ge : get_or ws b 0 ≤ round ws n t b
  round_ge =
      ⊎_elim
      (λ h. omega (arith, round_sums, sums_on ws n t b h, total_next ws b, total_mono ws (t + 1) b (omega arith)))
      (λ h. omega (arith, round_sums, sums_back ws n t b h, total_next ws b))
      (cases_lt t b)

  pub round_le : round ws n t b ≤ total ws n
  round_le =
      ⊎_elim
      (λ h. omega (arith, round_sums, sums_on ws n t b h, total_mono ws (b + 1) n (omega arith)))
      (λ h. omega (arith, round_sums, sums_back ws n t b h, total_mono ws (b + 1) (t + 1) (omega arith), total_mono ws (t + 1) n (omega arith)))
      (cases_lt t b)

  pub round_other : (b ≡ t → ⊥) → get_or ws t 0 + round ws n t b ≤ total ws n
  round_other o =
      ⊎_elim
      (λ h. omega (arith, round_sums, sums_on ws n t b h, total_next ws t, total_mono ws (t + 1) (b + 1) (omega arith), total_mono ws (b + 1) n (omega arith)))
      (λ h.
      let l : b < t = omega arith in
      omega (arith, round_sums, sums_back ws n t b h, total_next ws t, total_mono ws (b + 1) t (omega arith), total_mono ws (t + 1) n (omega arith)))
      (cases_lt t b)

  pub round_step : (b ≡ after n t → ⊥) → round ws n t b ≡ get_or ws (after n t) 0 + round ws n (after n t) b
  round_step o =
      round_sums ∙ sums_step ws n t b on present o
      ∙ ap (λ y. get_or ws (after n t) 0 + y) (sym (works_to_sums ws n b present n (after n t) (after_below n t on) (ahead_most n (after n t) b (after_below n t on) present)))
