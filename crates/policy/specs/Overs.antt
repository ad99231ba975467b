-- Slice and pair have one outcome for each call where those below have. Assumes nothing.
use Rattle.std.proofs.Common.{◌≡◌, ℕ, ◌+◌, Bool, true, false, cond, leb, sym, refl, ap, ◌∙◌, subst, inl, inr, arith}
use Rattle.std.proofs.lemmas.Bool.{cases_lt}
use Rattle.policy.specs.declared.meaning.Policy.{Ghosts}
use Rattle.policy.specs.declared.pair.Side.{Side}
use Rattle.policy.specs.declared.pair.Side.TheVariants.{First, Second}
use Rattle.policy.specs.Meaning.{Alike}
use Rattle.policy.specs.Wheel.{wide, wait}
use Rattle.policy.specs.Round.{after}
use Rattle.policy.specs.Slices.{shown, SliceLays}
use Rattle.policy.specs.Join.{side, seen, PairLays}
use Rattle.policy.specs.Like.{SliceLike, PairLike}
use Rattle.policy.specs.Members.{Exact, slice, pair}

shown_like : (p q s r l m x y : ℕ) → p ≡ q → s ≡ r → l ≡ m → x ≡ y → shown (wide p s l) x ≡ shown (wide q r m) y
shown_like p q s r l m x y e f g h = ap (λ z. shown (wide z s l) x) e ∙ ap (λ z. shown (wide q z l) x) f ∙ ap (λ z. shown (wide q r z) x) g ∙ ap (shown (wide q r m)) h

wide_like : (p q s r l m : ℕ) → p ≡ q → s ≡ r → l ≡ m → wide p s l ≡ wide q r m
wide_like p q s r l m e f g = ap (λ z. wide z s l) e ∙ ap (λ z. wide q z l) f ∙ ap (wide q r) g

wait_like : (p q s r w v d c : ℕ) → p ≡ q → s ≡ r → w ≡ v → d ≡ c → wait p s w d ≡ wait q r v c
wait_like p q s r w v d c e f g h = ap (λ z. wait z s w d) e ∙ ap (λ z. wait q z w d) f ∙ ap (λ z. wait q r z d) g ∙ ap (wait q r v) h

-- one outcome for each call, as the laws of the trait say it
pub outcomes : {X : Type 0} (m : Ghosts X) (like : X → X → Type 0) → ((p : X) → like p p) → ((p q : X) → like p q → Alike (m.view q) (m.view p))
    → ((p p' q q' : X) → like p q → m.ticks p p' → m.ticks q q' → like p' q') → ((p p' q q' : X) (a : ℕ) → like p q → m.lays p a p' → m.lays q a q' → like p' q')
    → ((p p' q q' : X) → like p q → m.clears p p' → m.clears q q' → like p' q') → Exact m like
outcomes m like same shown ticks lays clears = record {
  same = same;
  number = λ p q e. (shown p q e).number;
  work = λ p q e a. ((shown p q e).each a).work;
  promise = λ p q e a. ((shown p q e).each a).promise;
  left = λ p q e a. ((shown p q e).each a).left;
  due = λ p q e a. ((shown p q e).each a).due;
  ticks = ticks;
  lays = lays;
  clears = clears;
}

-- like ones show the same
pub shows : {X : Type 0} {m : Ghosts X} {like : X → X → Type 0} → Exact m like → (p q : X) → like p q → Alike (m.view q) (m.view p)
shows k p q e = record {
  number = k.number p q e;
  each = λ a. record { work = k.work p q e a; promise = k.promise p q e a; left = k.left p q e a; due = k.due p q e a };
}

module _ {X : Type 0} {m : Ghosts X} {like : X → X → Type 0} (k : Exact m like) where
  -- where nothing is done below, like ones stay like
  both_stay : (x x' y y' : X) → like x y → x' ≡ x → y' ≡ y → like x' y'
  both_stay x x' y y' e f g = subst (λ (z : X). like z y') (sym f) (subst (like x) (sym g) e)

  lays_like : (b : Bool) (x x' y y' : X) (a : ℕ) → like x y → SliceLays m.view m.lays b x a x' → SliceLays m.view m.lays b y a y' → like x' y'
  lays_like true x x' y y' a e f g = k.lays x x' y y' a e f g
  lays_like false x x' y y' a e f g = both_stay x x' y y' e f.1 g.1

  pub slice_exact : Exact (slice m) (SliceLike like)
  slice_exact = record {
    same = λ p. record { below = k.same p.below; period = refl; slots = refl; wheel = refl };
    number = λ p q e. k.number p.below q.below e.below;
    work = λ p q e a. shown_like p.period q.period p.slots q.slots _ _ _ _ e.period e.slots (k.promise p.below q.below e.below a) (k.work p.below q.below e.below a);
    promise = λ p q e a.
        let below = k.promise p.below q.below e.below a in
        shown_like p.period q.period p.slots q.slots _ _ _ _ e.period e.slots below (wide_like p.period q.period p.slots q.slots _ _ e.period e.slots below);
    left = λ p q e a. shown_like p.period q.period p.slots q.slots _ _ _ _ e.period e.slots (k.promise p.below q.below e.below a) (k.left p.below q.below e.below a);
    due = λ p q e a. shown_like p.period q.period p.slots q.slots _ _ _ _ e.period e.slots (k.promise p.below q.below e.below a)
        (wait_like p.period q.period p.slots q.slots p.wheel q.wheel _ _ e.period e.slots e.wheel (k.due p.below q.below e.below a));
    ticks = λ p p' q q' e x y. record {
      below = elim (cases_lt p.wheel p.slots) [
        | inl h ↦ k.ticks p.below p'.below q.below q'.below e.below (x.served h) (y.served (omega (arith, e.wheel, e.slots)))
        | inr h ↦ both_stay p.below p'.below q.below q'.below e.below (x.passed h) (y.passed (omega (arith, e.wheel, e.slots)))
      ];
      period = x.period ∙ e.period ∙ sym y.period;
      slots = x.slots ∙ e.slots ∙ sym y.slots;
      wheel = x.wheel ∙ ap (λ z. after z p.wheel) e.period ∙ ap (after q.period) e.wheel ∙ sym y.wheel;
    };
    lays = λ p p' q q' a e x y.
        let fits = ap (λ l. leb l 65535) (wide_like p.period q.period p.slots q.slots _ _ e.period e.slots (k.promise p.below q.below e.below a)) in
        record {
          below = lays_like (leb (wide p.period p.slots ((m.view p.below).promise a)) 65535) p.below p'.below q.below q'.below a e.below x.0
              (subst (λ (b : Bool). SliceLays m.view m.lays b q.below a q'.below) (sym fits) y.0);
          period = x.1.period ∙ e.period ∙ sym y.1.period;
          slots = x.1.slots ∙ e.slots ∙ sym y.1.slots;
          wheel = x.1.wheel ∙ e.wheel ∙ sym y.1.wheel;
        };
    clears = λ p p' q q' e x y. record {
      below = k.clears p.below p'.below q.below q'.below e.below x.0 y.0;
      period = x.1.period ∙ e.period ∙ sym y.1.period;
      slots = x.1.slots ∙ e.slots ∙ sym y.1.slots;
      wheel = x.1.wheel ∙ e.wheel ∙ sym y.1.wheel;
    };
  }

side_like : (n m k l a : ℕ) → n ≡ k → m ≡ l → side n m a ≡ side k l a
side_like n m k l a e f = ap (λ z. side z m a) e ∙ ap (λ z. side k z a) f

seen_like : (s t : Side) (f g h i : ℕ → ℕ) → s ≡ t → ((a : ℕ) → f a ≡ h a) → ((a : ℕ) → g a ≡ i a) → seen s f g ≡ seen t h i
seen_like (First b) t f g h i e x y = x b ∙ ap (λ (d : Side). seen d h i) e
seen_like (Second b) t f g h i e x y = y b ∙ ap (λ (d : Side). seen d h i) e

module _ {X Y : Type 0} {m : Ghosts X} {n : Ghosts Y} {f : X → X → Type 0} {g : Y → Y → Type 0} (k : Exact m f) (l : Exact n g) where
  sides_lay : (s : Side) (x x' u u' : X) (y y' v v' : Y) → f x u → g y v → PairLays m.lays n.lays s x y x' y' → PairLays m.lays n.lays s u v u' v' → f x' u' × g y' v'
  sides_lay (First b) x x' u u' y y' v v' e d r t = (k.lays x x' u u' b e r.0 t.0, both_stay l y y' v v' d r.1 t.1)
  sides_lay (Second b) x x' u u' y y' v v' e d r t = (both_stay k x x' u u' e r.0 t.0, l.lays y y' v v' b d r.1 t.1)

  -- the same side has an actor of like pairs
  here : (x u : X) (y v : Y) (a : ℕ) → f x u → g y v → side (m.view x).number (n.view y).number a ≡ side (m.view u).number (n.view v).number a
  here x u y v a e d = side_like (m.view x).number (n.view y).number (m.view u).number (n.view v).number a (k.number x u e) (l.number y v d)

  pub pair_exact : Exact (pair m n) (PairLike f g)
  pair_exact = record {
    same = λ p. record { first = k.same p.first; second = l.same p.second };
    number = λ p q e.
        ap (λ z. cond (leb (z + (n.view p.second).number) 16) (z + (n.view p.second).number) z) (k.number p.first q.first e.first)
        ∙ ap (λ z. cond (leb ((m.view q.first).number + z) 16) ((m.view q.first).number + z) (m.view q.first).number) (l.number p.second q.second e.second);
    work = λ p q e a. seen_like (side (m.view p.first).number (n.view p.second).number a) _ (m.view p.first).work (n.view p.second).work _ _ (here p.first q.first p.second q.second a e.first e.second) (k.work p.first q.first e.first) (l.work p.second q.second e.second);
    promise = λ p q e a. seen_like (side (m.view p.first).number (n.view p.second).number a) _ (m.view p.first).promise (n.view p.second).promise _ _ (here p.first q.first p.second q.second a e.first e.second) (k.promise p.first q.first e.first) (l.promise p.second q.second e.second);
    left = λ p q e a. seen_like (side (m.view p.first).number (n.view p.second).number a) _ (m.view p.first).left (n.view p.second).left _ _ (here p.first q.first p.second q.second a e.first e.second) (k.left p.first q.first e.first) (l.left p.second q.second e.second);
    due = λ p q e a. seen_like (side (m.view p.first).number (n.view p.second).number a) _ (m.view p.first).due (n.view p.second).due _ _ (here p.first q.first p.second q.second a e.first e.second) (k.due p.first q.first e.first) (l.due p.second q.second e.second);
    ticks = λ p p' q q' e x y. record {
      first = k.ticks p.first p'.first q.first q'.first e.first x.0 y.0;
      second = l.ticks p.second p'.second q.second q'.second e.second x.1 y.1;
    };
    lays = λ p p' q q' a e x y.
        let s = side (m.view p.first).number (n.view p.second).number a in
        let there = subst (λ (d : Side). PairLays m.lays n.lays d q.first q.second q'.first q'.second) (sym (here p.first q.first p.second q.second a e.first e.second)) y in
        let both = sides_lay s p.first p'.first q.first q'.first p.second p'.second q.second q'.second e.first e.second x there in
        record { first = both.0; second = both.1 };
    clears = λ p p' q q' e x y. record {
      first = k.clears p.first p'.first q.first q'.first e.first x.0 y.0;
      second = l.clears p.second p'.second q.second q'.second e.second x.1 y.1;
    };
  }
