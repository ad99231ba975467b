-- A state that comes again does so for ever. Assumes nothing.
use Rattle.std.proofs.Common.{◌≡◌, ℕ, zero, suc, ◌+◌, ◌-◌, ◌*◌, ◌<◌, ◌≤◌, sym, ap, subst, mul-pos, arith}
use mathlib.Core.Logic.{∥∥₁_elim}
use native.Mathlib.Nat.{ℕ_set, eq_of_mul-eq-mul_left}
use Rattle.model.specs.Net.{Net, State, when, busy, fallen, run}
use Rattle.model.specs.Likeness.{Same, Alike}
use Rattle.model.specs.Laws.{Balanced}
use Rattle.model.specs.Meaning.{Joined, first, along, back, Balances, Accepted, Repeats}
use Rattle.model.proofs.Balance.{run_balanced}
use Rattle.model.proofs.Runs.{run_grows}
use Rattle.model.proofs.Alikes.{same_alike, start_alike, finish_alike, finish_gain}

-- a channel whose tokens are the same at two ticks gained as many as it lost
even_gain : (w x p q i es es' ed ed' : ℕ) → es ≤ es' → ed ≤ ed' → x + q * (ed + w) ≡ i + p * es → x + q * (ed' + w) ≡ i + p * es' → p * (es' - es) ≡ q * (ed' - ed)
even_gain w x p q i es es' ed ed' hs hd h h' =
    let gs : es' ≡ es + (es' - es) = omega arith in
    let gd : ed' + w ≡ ed + w + (ed' - ed) = omega arith in
    omega (arith, ap (λ z. p * z) gs, ap (λ z. q * z) gd)

-- what balances one channel as r and s do is m times r at one end if it is m times s at the other
share : (p q x y r s m : ℕ) → 0 < q → p * x ≡ q * y → p * r ≡ q * s → x ≡ m * r → y ≡ m * s
share p q x y r s m pos h k e = eq_of_mul-eq-mul_left q pos y (m * s) (omega (arith, ap (λ z. p * z) e, ap (λ z. m * z) k))

module _ (n : Net) (time reps : ℕ → ℕ) (ok : Accepted n time reps) (f d : ℕ) (same : Same n (run n time f) (run n time (f + d))) where
  abbrev at : ℕ → State
  at = run n time

  -- the firings that a ends from tick f to tick f + d
  abbrev gain : ℕ → ℕ
  gain a = (at (f + d)).ended a - (at f).ended a

  balanced : (t : ℕ) → Balanced n (at t)
  balanced = run_balanced n ok.sound time ok.timed

  grows : (a : ℕ) → a < n.actors → (at f).ended a ≤ (at (f + d)).ended a
  grows a ha = run_grows n ok.sound time ok.timed f (f + d) a ha (omega arith)

  -- v is d ticks after u: the states are alike, and the counts have gained what they do from f on
  Keeps : ℕ → ℕ → Type 0
  Keeps u v = Alike n (at u) (at v) × ((a : ℕ) → a < n.actors → (at v).ended a + (at f).ended a ≡ (at u).ended a + (at (f + d)).ended a)

  keeps : (j u v : ℕ) → u ≡ f + j → v ≡ f + d + j → Keeps u v
  unfolding Keeps
  keeps zero u v eu ev =
      let eu' : f ≡ u = omega arith in
      let ev' : f + d ≡ v = omega arith in
      subst (λ x. Keeps x v) eu' (subst (λ y. Keeps f y) ev' (same_alike n ok.sound (at f) (at (f + d)) (balanced f) (balanced (f + d)) same, λ a ha. omega arith))
  keeps (suc j) zero v eu ev = absurd (omega arith)
  keeps (suc j) (suc u) zero eu ev = absurd (omega arith)
  keeps (suc j) (suc u) (suc v) eu ev =
      let (alike, sums) = keeps j u v (omega arith) (omega arith) in
      let falls : (a : ℕ) → a < n.actors → fallen (at u) a ≡ fallen (at v) a = λ a ha. ap (λ x. x - 1) (alike.left a ha) in (
        start_alike n ok.sound time _ _ (finish_alike n ok.sound (fallen (at u)) (fallen (at v)) (at u) (at v) alike falls),
        λ a ha. omega (arith, sums a ha, finish_gain n ok.sound (fallen (at u)) (fallen (at v)) (at u) (at v) alike falls a ha),
      )

  gains : Balances n gain
  gains c hc = even_gain (when (busy (at f) (n.dest c)) 1) ((at f).tokens c) _ _ _ _ _ _ _ (grows _ (ok.sound.source_in c hc)) (grows _ (ok.sound.dest_in c hc))
      ((balanced f).tokens c hc) (rw (same.tokens c hc, same.left (n.dest c) (ok.sound.dest_in c hc)) ((balanced (f + d)).tokens c hc))

  module _ (m : ℕ) (base : (at (f + d)).ended 0 ≡ (at f).ended 0 + m * reps 0) where
    shares : {a : ℕ} → Joined n a → gain a ≡ m * reps a
    shares first = omega arith
    shares (along c hc j) = share (n.p c) (n.q c) _ _ _ _ m (ok.sound.q_pos c hc) (gains c hc) (ok.balances c hc) (shares j)
    shares (back c hc j) = share (n.q c) (n.p c) _ _ _ _ m (ok.sound.p_pos c hc) (sym (gains c hc)) (sym (ok.balances c hc)) (shares j)

    steady : (t a : ℕ) → f ≤ t → a < n.actors → (at (t + d)).ended a ≡ (at t).ended a + m * reps a
    unfolding Keeps
    steady t a h ha =
        let gained : gain a ≡ m * reps a = ∥∥₁_elim (ok.joined a ha) (ℕ_set _ _) shares in
        omega (arith, (keeps (t - f) t (t + d) (omega arith) (omega arith)).1 a ha, grows a ha)

    endless : (a k : ℕ) → a < n.actors → 0 < m * reps a → (t : ℕ) × (f ≤ t) × (k ≤ (at t).ended a)
    endless a zero ha some = (f, omega arith, omega arith)
    endless a (suc k) ha some = let (t, from, by) = endless a k ha some in (t + d, omega arith, omega (arith, steady t a from ha))

    pub repeating : 0 < d → 0 < m → Repeats n time reps f d m
    repeating later some = record {
      later = later;
      some = some;
      steady = steady;
      endless = λ a k ha fires. let (t, from, by) = endless a k ha (mul-pos some fires) in (t, by);
    }
