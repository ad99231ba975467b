-- What it tells that an actor is ready, or that it is not. Assumes nothing.
use Rattle.std.proofs.Common.{◌≡◌, ℕ, ◌<◌, ◌≤◌, true, false, not, ◌⊎◌, refl, inl, inr, arith}
use Rattle.std.proofs.lemmas.Bool.{and_parts, and_cases, and_right, not-true, not-false}
use Rattle.std.proofs.lemmas.Bool.Decides.{nat_tests}
use Rattle.model.specs.Net.{Net, State, every, busy, lets, ready}
use Rattle.model.proofs.Every.{every_true, every_false, every_stop}

module _ (n : Net) (s : State) where
  pub lets_true : (a c : ℕ) → lets n s a c ≡ true → (n.dest c ≡ a → n.q c ≤ s.tokens c) × (n.source c ≡ a → n.p c ≤ s.free c)
  lets_true a c h = grind (arith, nat_tests)

  pub lets_false : (a c : ℕ) → lets n s a c ≡ false → ((n.dest c ≡ a) × (s.tokens c < n.q c)) ⊎ ((n.source c ≡ a) × (s.free c < n.p c))
  lets_false a c h = grind (arith, nat_tests)

  pub ready_true : (a : ℕ) → ready n s a ≡ true → (busy s a ≡ false) × ((c : ℕ) → c < n.channels → lets n s a c ≡ true)
  ready_true a h = let (idle, all) = and_parts (not (busy s a)) (every n.channels (lets n s a)) h in (not-true _ idle, every_true _ _ all)

  pub ready_false : (a : ℕ) → ready n s a ≡ false → (busy s a ≡ true) ⊎ ((c : ℕ) × (c < n.channels) × (lets n s a c ≡ false))
  ready_false a h = elim (and_cases (not (busy s a)) (every n.channels (lets n s a)) h) [ inl e ↦ inl (not-false _ e) | inr e ↦ inr (every_false _ _ e) ]

  pub not_ready : (a c : ℕ) → c < n.channels → lets n s a c ≡ false → ready n s a ≡ false
  not_ready a c lt h = and_right (not (busy s a)) (every n.channels (lets n s a)) (every_stop (lets n s a) n.channels c lt h)

  -- a ready actor has its tokens and its places
  pub has_tokens : (c : ℕ) → c < n.channels → ready n s (n.dest c) ≡ true → n.q c ≤ s.tokens c
  has_tokens c hc go = (lets_true (n.dest c) c ((ready_true (n.dest c) go).1 c hc)).0 refl

  pub has_places : (c : ℕ) → c < n.channels → ready n s (n.source c) ≡ true → n.p c ≤ s.free c
  has_places c hc go = (lets_true (n.source c) c ((ready_true (n.source c) go).1 c hc)).1 refl
