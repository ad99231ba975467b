-- The due of a ring's actor, way by way. Assumes nothing.
use Rattle.std.proofs.Common.{◌≡◌, ℕ, ◌+◌, ◌<◌, Bool, true, false, cond, eqb, List, get_or, sym, ◌∙◌, subst, ⊎_elim, arith}
use Rattle.std.proofs.lemmas.Bool.{cases_lt, cases_eq, cases_Bool, ne_eqb, eq-eqb, cond-true, cond-false}
use Rattle.policy.specs.Turns.{round, owed}

module _ (n : ℕ) (ws left : List ℕ) (t : ℕ) (busy : Bool) (b : ℕ) where
  pub owed_none : get_or left b 0 ≡ 0 → owed n ws left t busy b ≡ 0
  owed_none z = cond-true _ _ _ (eq-eqb (get_or left b 0) 0 z)

  owed_some : 0 < get_or left b 0 → owed n ws left t busy b ≡ cond busy (cond (eqb b t) (get_or left b 0) (get_or left t 0 + round ws n t b)) (round ws n t b)
  owed_some h = cond-false _ _ _ (ne_eqb (get_or left b 0) 0 (λ z. omega arith))

  pub owed_ended : 0 < get_or left b 0 → busy ≡ false → owed n ws left t busy b ≡ round ws n t b
  owed_ended h f = owed_some h ∙ cond-false _ _ _ f

  pub owed_own : 0 < get_or left b 0 → busy ≡ true → b ≡ t → owed n ws left t busy b ≡ get_or left b 0
  owed_own h f s = owed_some h ∙ cond-true _ _ _ f ∙ cond-true _ _ _ (eq-eqb b t s)

  pub owed_other : 0 < get_or left b 0 → busy ≡ true → (b ≡ t → ⊥) → owed n ws left t busy b ≡ get_or left t 0 + round ws n t b
  owed_other h f o = owed_some h ∙ cond-true _ _ _ f ∙ cond-false _ _ _ (ne_eqb b t o)

  pub by_owed : (P : ℕ → Type 0)
      → (get_or left b 0 ≡ 0 → P 0)
      → (0 < get_or left b 0 → busy ≡ false → P (round ws n t b))
      → (0 < get_or left b 0 → busy ≡ true → b ≡ t → P (get_or left b 0))
      → (0 < get_or left b 0 → busy ≡ true → (b ≡ t → ⊥) → P (get_or left t 0 + round ws n t b))
      → P (owed n ws left t busy b)
  by_owed P none ended own other =
      ⊎_elim
      (λ h. ⊎_elim
      (λ f. ⊎_elim
      (λ s. subst P (sym (owed_own h f s)) (own h f s))
      (λ o. subst P (sym (owed_other h f o)) (other h f o))
      (cases_eq b t))
      (λ f. subst P (sym (owed_ended h f)) (ended h f))
      (cases_Bool busy))
      (λ z. let e : get_or left b 0 ≡ 0 = omega arith in subst P (sym (owed_none e)) (none e))
      (cases_lt 0 (get_or left b 0))
