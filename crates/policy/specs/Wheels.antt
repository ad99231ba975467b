-- The closed form of a wait, and how it changes from tick to tick. Assumes nothing.
use Rattle.std.specs.Prelude.{◌≡◌, ℕ, ◌+◌, ◌-◌, ◌*◌, ◌/◌, ◌<◌, ◌≤◌, true, false, cond, ltb, ◌==◌, nat_eq, nat_lt}
use Rattle.std.proofs.Common.{sym, ap, subst, ◌∙◌, ⊎_elim, mul-le-mul_left, div-mul-le_self, mul-add, mul-one, mul-zero, zero-mul, arith}
use Rattle.std.proofs.Math.Nat.{add-div_right, div-eq_of_lt}
use Rattle.std.proofs.lemmas.Nat.{le-div}
use Rattle.std.proofs.lemmas.Bool.{cases_lt, lt-ltb, le-ltb, ne_eqb}
use Rattle.policy.specs.Round.{after}
use Rattle.policy.specs.Wheel.{wide}
use Rattle.policy.specs.Afters.{by_after}

-- d positions and, in between, the other p - s as often as the wheel comes round
abbrev pub closed : ℕ → ℕ → ℕ → ℕ → ℕ
closed p s w d =
    cond (d == 0) 0 (cond (nat_lt w s) (d + (p - s) * ((w + (d - 1)) / s)) ((p - w) + d + (p - s) * ((d - 1) / s)))

pub div_mono : (s a b : ℕ) → 0 < s → a ≤ b → a / s ≤ b / s
div_mono s a b h k = le-div (a / s) b s h (omega (arith, div-mul-le_self a s))

-- the idle ticks of one round more
pub more_idle : (q s n : ℕ) → 0 < s → q * ((n + s) / s) ≡ q * (n / s) + q
more_idle q s n h = ap (λ x. q * x) (add-div_right n h) ∙ mul-add q (n / s) 1 ∙ ap (λ x. q * (n / s) + x) (mul-one q)

pub idle_mono : (q s a b : ℕ) → 0 < s → a ≤ b → q * (a / s) ≤ q * (b / s)
idle_mono q s a b h k = mul-le-mul_left q (div_mono s a b h k)

module _ (p s w : ℕ) where
  pub closed_in : (d : ℕ) → 0 < d → w < s → closed p s w d ≡ d + (p - s) * ((w + (d - 1)) / s)
  closed_in d h k =
      let e : nat_eq d 0 ≡ false = ne_eqb d 0 (λ z. omega arith) in
      let l : ltb w s ≡ true = lt-ltb w s k in
      rw (e, l)

  pub closed_out : (d : ℕ) → 0 < d → s ≤ w → closed p s w d ≡ (p - w) + d + (p - s) * ((d - 1) / s)
  closed_out d h k =
      let e : nat_eq d 0 ≡ false = ne_eqb d 0 (λ z. omega arith) in
      let l : ltb w s ≡ false = le-ltb w s k in
      rw (e, l)

pub wide_ge : (p s d : ℕ) → d ≤ wide p s d
wide_ge p s d = omega arith

pub wide_zero : (p s : ℕ) → 0 < s → wide p s 0 ≡ 0
wide_zero p s h =
    let e : (0 + (s - 1)) / s ≡ 0 = div-eq_of_lt (omega arith) in
    omega (arith, ap (λ x. (p - s) * x) e, mul-zero (p - s))

module _ (p s w : ℕ) (one : 0 < s) (within : s ≤ p) (on : w < p) where
  by_wheel : (P : Type 0) → (w < s → P) → (s ≤ w → P) → P
  by_wheel P f g = ⊎_elim f g (cases_lt w s)

  -- at least as many ticks as positions
  pub closed_ge : (d : ℕ) → d ≤ closed p s w d
  closed_ge d =
      ⊎_elim (λ h. by_wheel (d ≤ closed p s w d) (λ k. omega (arith, closed_in p s w d h k)) (λ k. omega (arith, closed_out p s w d h k)))
      (λ z. omega arith)
      (cases_lt 0 d)

  pub closed_mono : (d e : ℕ) → d ≤ e → closed p s w d ≤ closed p s w e
  closed_mono d e l =
      ⊎_elim
      (λ h. by_wheel (closed p s w d ≤ closed p s w e)
      (λ k. omega (arith, closed_in p s w d h k, closed_in p s w e (omega arith) k, idle_mono (p - s) s (w + (d - 1)) (w + (e - 1)) one (omega arith)))
      (λ k. omega (arith, closed_out p s w d h k, closed_out p s w e (omega arith) k, idle_mono (p - s) s (d - 1) (e - 1) one (omega arith))))
      (λ z. let n : d ≡ 0 = omega arith in subst (λ (x : ℕ). closed p s w x ≤ closed p s w e) (sym n) (omega arith))
      (cases_lt 0 d)

  pub closed_wide : (d e : ℕ) → d ≤ e → closed p s w d ≤ wide p s e
  closed_wide d e l =
      ⊎_elim
      (λ h. by_wheel (closed p s w d ≤ wide p s e)
      (λ k. omega (arith, closed_in p s w d h k, idle_mono (p - s) s (w + (d - 1)) (e + (s - 1)) one (omega arith)))
      (λ k.
      let n : ((d - 1) + s) ≤ (e + (s - 1)) = omega arith in
      omega (arith, closed_out p s w d h k, more_idle (p - s) s (d - 1) one, idle_mono (p - s) s ((d - 1) + s) (e + (s - 1)) one n)))
      (λ z. let n : d ≡ 0 = omega arith in subst (λ (x : ℕ). closed p s w x ≤ wide p s e) (sym n) (omega arith))
      (cases_lt 0 d)

  -- a tick that serves below
  pub closed_served : (d e : ℕ) → w < s → e + 1 ≤ d → closed p s (after p w) e + 1 ≤ closed p s w d
  closed_served d e k l =
      ⊎_elim
      (λ h. by_after p w on (λ u. closed p s u e + 1 ≤ closed p s w d)
      (λ t. ⊎_elim
      (λ i. omega (arith, closed_in p s (w + 1) e h i, closed_in p s w d (omega arith) k, idle_mono (p - s) s ((w + 1) + (e - 1)) (w + (d - 1)) one (omega arith)))
      (λ i.
      let n : ((e - 1) + s) ≤ (w + (d - 1)) = omega arith in
      let m : s ≡ w + 1 = omega arith in
      omega (arith, closed_out p s (w + 1) e h i, closed_in p s w d (omega arith) k, more_idle (p - s) s (e - 1) one, idle_mono (p - s) s ((e - 1) + s) (w + (d - 1)) one n))
      (cases_lt (w + 1) s))
      (λ t. omega (arith, closed_in p s 0 e h one, closed_in p s w d (omega arith) k, idle_mono (p - s) s (0 + (e - 1)) (w + (d - 1)) one (omega arith))))
      (λ z. let n : e ≡ 0 = omega arith in subst (λ (x : ℕ). closed p s (after p w) x + 1 ≤ closed p s w d) (sym n) (omega (arith, closed_ge d)))
      (cases_lt 0 e)

  -- a tick that does not
  pub closed_passed : (d : ℕ) → s ≤ w → 0 < d → closed p s (after p w) d + 1 ≤ closed p s w d
  closed_passed d k h =
      by_after p w on (λ u. closed p s u d + 1 ≤ closed p s w d)
      (λ t. omega (arith, closed_out p s (w + 1) d h (omega arith), closed_out p s w d h k))
      (λ t. omega (arith, closed_in p s 0 d h one, closed_out p s w d h k, idle_mono (p - s) s (0 + (d - 1)) (d - 1) one (omega arith)))

module _ (p s : ℕ) (one : 0 < s) (within : s ≤ p) where
  pub served_ge : (w d : ℕ) → w < p → w < s → closed p s w (d + 1) ≤ closed p s (after p w) d + 1
  served_ge w d on k =
      ⊎_elim
      (λ h. by_after p w on (λ u. closed p s w (d + 1) ≤ closed p s u d + 1)
      (λ t. ⊎_elim
      (λ i. omega (arith, closed_in p s (w + 1) d h i, closed_in p s w (d + 1) (omega arith) k, idle_mono (p - s) s (w + ((d + 1) - 1)) ((w + 1) + (d - 1)) one (omega arith)))
      (λ i.
      let n : (w + ((d + 1) - 1)) ≤ ((d - 1) + s) = omega arith in
      omega (arith, closed_out p s (w + 1) d h i, closed_in p s w (d + 1) (omega arith) k, more_idle (p - s) s (d - 1) one, idle_mono (p - s) s (w + ((d + 1) - 1)) ((d - 1) + s) one n))
      (cases_lt (w + 1) s))
      (λ t.
      let z : p - s ≡ 0 = omega arith in
      omega (arith, closed_ge p s 0 one within (omega arith) d, closed_in p s w (d + 1) (omega arith) k, ap (λ q. q * ((w + ((d + 1) - 1)) / s)) z, zero-mul ((w + ((d + 1) - 1)) / s))))
      (λ z.
      let n : d ≡ 0 = omega arith in
      let e : (w + ((d + 1) - 1)) / s ≡ 0 = div-eq_of_lt (omega arith) in
      omega (arith, closed_in p s w (d + 1) (omega arith) k, ap (λ q. (p - s) * q) e, mul-zero (p - s)))
      (cases_lt 0 d)

  pub passed_ge : (w d : ℕ) → w < p → s ≤ w → 0 < d → closed p s w d ≤ closed p s (after p w) d + 1
  passed_ge w d on k h =
      by_after p w on (λ u. closed p s w d ≤ closed p s u d + 1)
      (λ t. omega (arith, closed_out p s (w + 1) d h (omega arith), closed_out p s w d h k))
      (λ t. omega (arith, closed_in p s 0 d h one, closed_out p s w d h k, idle_mono (p - s) s (d - 1) (0 + (d - 1)) one (omega arith)))
