-- One step round n numbers. Assumes nothing.
use Rattle.std.specs.Prelude.{◌≡◌, ℕ, ◌+◌, ◌<◌}
use Rattle.std.proofs.Common.{sym, subst, ⊎_elim, arith}
use Rattle.std.proofs.lemmas.Bool.{cases_lt, lt-ltb, le-ltb, cond-true, cond-false}
use Rattle.policy.specs.Round.{after}

module _ (n t : ℕ) (on : t < n) where
  pub by_after : (P : ℕ → Type 0) → (t + 1 < n → P (t + 1)) → (t + 1 ≡ n → P 0) → P (after n t)
  by_after P f g =
      ⊎_elim
      (λ h. subst P (sym (cond-true _ _ _ (lt-ltb (t + 1) n h))) (f h))
      (λ h. subst P (sym (cond-false _ _ _ (le-ltb (t + 1) n h))) (g (omega arith)))
      (cases_lt (t + 1) n)

  pub after_below : after n t < n
  after_below = by_after (λ x. x < n) (λ h. h) (λ h. omega arith)
