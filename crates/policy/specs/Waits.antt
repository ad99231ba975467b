-- The wait by positions passed is the closed form, and the promise is the longest one. Assumes nothing.
use Rattle.std.specs.Prelude.{◌≡◌, ℕ, zero, suc, ◌+◌, ◌-◌, ◌*◌, ◌/◌, ◌<◌, ◌≤◌, Bool, cond}
use Rattle.std.proofs.Common.{sym, ap, ◌∙◌, ⊎_elim, mul-le-mul_left, mul-one, add-mul, zero-mul, arith}
use Rattle.std.proofs.lemmas.Nat.{div_below, mul-le}
use Rattle.std.proofs.lemmas.Bool.{cases_lt, lt-ltb, le-ltb, le-leb, lt-leb, cond-true, cond-false}
use Rattle.policy.specs.Round.{after}
use Rattle.policy.specs.Wheel.{passed, tried, wait, wide, Until, Longest}
use Rattle.policy.specs.Afters.{after_below}
use Rattle.policy.specs.Wheels.{closed, closed_in, closed_out, closed_ge, closed_mono, closed_wide, closed_served, closed_passed, served_ge, passed_ge, more_idle, wide_zero}

module _ (p s : ℕ) (one : 0 < s) (within : s ≤ p) where
  -- d positions have passed after t ticks just where t is the wait or more
  met : (t w d : ℕ) → w < p → (closed p s w d ≤ t → d ≤ passed p s w t) × (t < closed p s w d → passed p s w t < d)
  met zero w d on = (
    (λ h. omega (arith, closed_ge p s w one within on d)),
    (λ h. ⊎_elim (λ (l : 0 < d). l) (λ l. let n : d ≡ 0 = omega arith in absurd (omega (arith, ap (closed p s w) n))) (cases_lt 0 d)),
  )
  met (suc t) w d on =
      ⊎_elim
      (λ h. ⊎_elim
      (λ k.
      let e : d ≡ (d - 1) + 1 = omega arith in
      let up = closed_served p s w one within on d (d - 1) k (omega arith) in
      let down = served_ge p s one within w (d - 1) on k in
      let same = ap (closed p s w) e in
      let ih = met t (after p w) (d - 1) (after_below p w on) in
      let c = ap (λ (b : Bool). cond b 1 0 + passed p s (after p w) t) (lt-ltb w s k) in
      ((λ l. omega (arith, c, ih.0 (omega arith))), (λ l. omega (arith, c, ih.1 (omega arith)))))
      (λ k.
      let up = closed_passed p s w one within on d k h in
      let down = passed_ge p s one within w d on k h in
      let ih = met t (after p w) d (after_below p w on) in
      let c = ap (λ (b : Bool). cond b 1 0 + passed p s (after p w) t) (le-ltb w s k) in
      ((λ l. omega (arith, c, ih.0 (omega arith))), (λ l. omega (arith, c, ih.1 (omega arith)))))
      (cases_lt w s))
      (λ z.
      let n : d ≡ 0 = omega arith in
      ((λ l. omega arith), (λ l. absurd (omega (arith, ap (closed p s w) n)))))
      (cases_lt 0 d)

  -- trying tick after tick from below the closed form ends at it
  tried_closed : (w d : ℕ) → w < p → (k t : ℕ) → t ≤ closed p s w d → closed p s w d ≤ t + k → tried p s w d t k ≡ closed p s w d
  tried_closed w d on zero t h l = omega arith
  tried_closed w d on (suc k) t h l =
      ⊎_elim
      (λ i.
      cond-false _ _ _ (lt-leb d (passed p s w t) ((met t w d on).1 i)) ∙ tried_closed w d on k (t + 1) (omega arith) (omega arith))
      (λ i. let e : t ≡ closed p s w d = omega arith in cond-true _ _ _ (le-leb d (passed p s w t) ((met t w d on).0 i)) ∙ e)
      (cases_lt t (closed p s w d))

  -- a turn of the wheel passes one position under s or more
  wide_most : (d : ℕ) → wide p s d ≤ p * d
  wide_most d =
      let few : (d + (s - 1)) / s < d + 1 = div_below (d + (s - 1)) s (d + 1) one (omega (arith, mul-le d 1 d s (omega arith) one, mul-one d, add-mul d 1 s, mul-one s)) in
      let most : (d + (s - 1)) / s ≤ d = omega arith in
      let whole : s + (p - s) ≡ p = omega arith in
      omega (arith, mul-le-mul_left (p - s) most, add-mul s (p - s) d, ap (λ x. x * d) whole, mul-le 1 d s d one (omega arith), mul-one d)

  pub wait_closed : (w d : ℕ) → w < p → wait p s w d ≡ closed p s w d
  wait_closed w d on = tried_closed w d on (p * d) 0 (omega arith) (omega (arith, closed_wide p s w one within on d d (omega arith), wide_most d))

  pub wait_until : (w d : ℕ) → w < p → Until p s w d (wait p s w d)
  wait_until w d on = record {
    enough = (met (wait p s w d) w d on).0 (omega (arith, wait_closed w d on));
    first = λ u h. (met u w d on).1 (omega (arith, wait_closed w d on));
  }

  reached : (d : ℕ) → (w : ℕ) × ((w < p) × (wait p s w d ≡ wide p s d))
  reached d =
      ⊎_elim
      (λ h. ⊎_elim
      (λ i.
      let e : (d - 1) + s ≡ d + (s - 1) = omega arith in
      (s, (i, omega (arith, wait_closed s d i, closed_out p s s d h (omega arith), more_idle (p - s) s (d - 1) one, ap (λ x. (p - s) * (x / s)) e))))
      (λ i.
      let z : p - s ≡ 0 = omega arith in
      (0, (omega arith, omega (arith, wait_closed 0 d (omega arith), closed_in p s 0 d h one, ap (λ x. x * ((0 + (d - 1)) / s)) z, zero-mul ((0 + (d - 1)) / s), ap (λ x. x * ((d + (s - 1)) / s)) z, zero-mul ((d + (s - 1)) / s)))))
      (cases_lt s p))
      (λ h.
      let z : d ≡ 0 = omega arith in
      (0, (omega arith, ap (wait p s 0) z ∙ wait_closed 0 0 (omega arith) ∙ sym (ap (wide p s) z ∙ wide_zero p s one))))
      (cases_lt 0 d)

  pub wide_longest : (d : ℕ) → Longest p s d (wide p s d)
  wide_longest d = record {
    bound = λ w e on h. omega (arith, wait_closed w e on, closed_wide p s w one within on e d h);
    reached = reached d;
  }

-- what the closed form keeps, the wait keeps
module _ (p s w : ℕ) (one : 0 < s) (within : s ≤ p) (on : w < p) where
  pub wait_none : wait p s w 0 ≡ 0
  wait_none = wait_closed p s one within w 0 on

  pub wait_ge : (d : ℕ) → d ≤ wait p s w d
  wait_ge d = omega (arith, wait_closed p s one within w d on, closed_ge p s w one within on d)

  pub wait_mono : (d e : ℕ) → d ≤ e → wait p s w d ≤ wait p s w e
  wait_mono d e h = omega (arith, wait_closed p s one within w d on, wait_closed p s one within w e on, closed_mono p s w one within on d e h)

  pub wait_wide : (d e : ℕ) → d ≤ e → wait p s w d ≤ wide p s e
  wait_wide d e h = omega (arith, wait_closed p s one within w d on, closed_wide p s w one within on d e h)

  pub wait_served : (d e : ℕ) → w < s → e + 1 ≤ d → wait p s (after p w) e + 1 ≤ wait p s w d
  wait_served d e k h =
      omega (arith, wait_closed p s one within w d on, wait_closed p s one within (after p w) e (after_below p w on), closed_served p s w one within on d e k h)

  pub wait_passed : (d : ℕ) → s ≤ w → 0 < d → wait p s (after p w) d + 1 ≤ wait p s w d
  wait_passed d k h =
      omega (arith, wait_closed p s one within w d on, wait_closed p s one within (after p w) d (after_below p w on), closed_passed p s w one within on d k h)
