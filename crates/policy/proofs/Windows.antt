-- Work ends by its due and not before its left, by the laws alone. Assumes nothing.
use Rattle.std.proofs.Common.{ℕ, ◌+◌, ◌<◌, ◌≤◌, sym, ⊎_elim, arith}
use Rattle.std.proofs.lemmas.Bool.{cases_lt}
use Rattle.policy.specs.declared.meaning.Policy.{Ghosts}
use Rattle.policy.specs.Meaning.{Sound, Served, Laid}
use Rattle.policy.specs.Runs.{Run, here, ticked, laid, EndsWithin}

module _ {X : Type 0} (m : Ghosts X) (sound : (p : X) → Sound (m.view p)) (serves : (p q : X) → m.ticks p q → Served (m.view p) (m.view q))
    (lays : (p q : X) (a : ℕ) → m.lays p a q → Laid (m.view p) (m.view q) a) (a : ℕ) (p : X) where
  slow : {t : ℕ} {q : X} → Run m a p t q → (m.view p).left a ≤ (m.view q).left a + t
  slow here = omega arith
  slow (ticked t q r run f) = omega (arith, slow run, (serves q r f).slow a)
  slow (laid t b q r o run f) = omega (arith, slow run, (lays q r b f).others a (λ e. o (sym e)))

  near : {t : ℕ} {q : X} → Run m a p t q → 0 < (m.view q).left a → (m.view q).due a + t ≤ (m.view p).due a
  near here h = omega arith
  near (ticked t q r run f) h =
      let s = serves q r f in
      let k : 0 < (m.view q).left a = omega (arith, s.falls a) in
      omega (arith, near run k, s.nearer a k)
  near (laid t b q r o run f) h =
      let s = lays q r b f in
      let k : 0 < (m.view q).left a = omega (arith, s.others a (λ e. o (sym e))) in
      omega (arith, near run k, s.no_later a (λ e. o (sym e)))

  pub ends_within : EndsWithin m p a ((m.view p).left a) ((m.view p).due a)
  ends_within = record {
    not_before = λ t q run z. omega (arith, slow run);
    by_then = λ t q run h. ⊎_elim (λ k. absurd (omega (arith, near run k, (sound q).left_due a))) (λ k. omega arith) (cases_lt 0 ((m.view q).left a));
  }
