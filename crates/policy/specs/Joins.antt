-- A pair keeps the meaning of its two. Assumes nothing.
use Rattle.std.specs.Prelude.{◌≡◌, ℕ, ◌+◌, ◌-◌, ◌<◌, ◌≤◌, cond, nat_le, refl}
use Rattle.std.proofs.Common.{sym, ap, subst, ◌∙◌, ⊎_elim, arith}
use Rattle.std.proofs.lemmas.Bool.{cases_lt, le-leb, lt-leb, and_from, and_left, and_right, cond-true, cond-false}
use Rattle.policy.specs.declared.pair.Side.{Side}
use Rattle.policy.specs.declared.pair.Side.TheVariants.{First, Second}
use Rattle.policy.specs.Meaning.{View, Sound, SameTerms, Served, Cleared, Laid, ShowsAt}
use Rattle.policy.specs.Join.{side, seen, joined, joined_at, PairMade, PairLays}

module _ (n m a : ℕ) where
  side_before : a < n → side n m a ≡ First a
  side_before h = cond-false _ _ _ (and_left (nat_le n a) (nat_le (n + m) 16) (lt-leb n a h))

  side_crowd : 16 < n + m → side n m a ≡ First a
  side_crowd h = cond-false _ _ _ (and_right (nat_le n a) (nat_le (n + m) 16) (lt-leb (n + m) 16 h))

  side_after : n ≤ a → n + m ≤ 16 → side n m a ≡ Second (a - n)
  side_after h k = cond-true _ _ _ (and_from (nat_le n a) (nat_le (n + m) 16) (le-leb n a h) (le-leb (n + m) 16 k))

  -- an actor of the first, present or not, or one of the second
  by_side : (P : Side → Type 0) → (a < n → P (First a)) → (16 < n + m → P (First a)) → (n ≤ a → n + m ≤ 16 → P (Second (a - n))) → P (side n m a)
  by_side P before crowd after =
      ⊎_elim
      (λ h. subst P (sym (side_before h)) (before h))
      (λ h. ⊎_elim (λ k. subst P (sym (side_crowd k)) (crowd k)) (λ k. subst P (sym (side_after h k)) (after h k)) (cases_lt 16 (n + m)))
      (cases_lt a n)

  -- what each of the two keeps of every actor, a pair keeps
  each : (P : Side → Type 0) → ((b : ℕ) → P (First b)) → ((b : ℕ) → P (Second b)) → P (side n m a)
  each P f g = by_side P (λ _. f a) (λ _. f a) (λ _ _. g (a - n))

numbered : (P : ℕ → Type 0) (n m : ℕ) → (n + m ≤ 16 → P (n + m)) → (16 < n + m → P n) → P (cond (nat_le (n + m) 16) (n + m) n)
numbered P n m few crowd =
    ⊎_elim
    (λ h. subst P (sym (cond-false _ _ _ (lt-leb (n + m) 16 h))) (crowd h))
    (λ h. subst P (sym (cond-true _ _ _ (le-leb (n + m) 16 h))) (few h))
    (cases_lt 16 (n + m))

pub joined_sound : (v w : View) → Sound v → Sound w → Sound (joined v w)
joined_sound v w k l =
    let n = v.number in
    let m = w.number in
    record {
      few = numbered (λ x. x ≤ 16) n m (λ h. h) (λ _. k.few);
      absent = λ a h. by_side n m a (λ s. seen s v.promise w.promise ≡ 0)
          (λ b. absurd (numbered (λ x. x ≤ a → ⊥) n m (λ _ i. omega arith) (λ _ i. omega arith) h))
          (λ c. k.absent a (subst (λ (x : ℕ). x ≤ a) (cond-false _ _ _ (lt-leb (n + m) 16 c)) h))
          (λ i c. l.absent (a - n) (let j : n + m ≤ a = subst (λ (x : ℕ). x ≤ a) (cond-true _ _ _ (le-leb (n + m) 16 c)) h in omega arith));
      promise_limit = λ a. each n m a (λ s. seen s v.promise w.promise ≤ 65535) k.promise_limit l.promise_limit;
      work_promise = λ a. each n m a (λ s. seen s v.work w.work ≤ seen s v.promise w.promise) k.work_promise l.work_promise;
      left_work = λ a. each n m a (λ s. seen s v.left w.left ≤ seen s v.work w.work) k.left_work l.left_work;
      left_due = λ a. each n m a (λ s. seen s v.left w.left ≤ seen s v.due w.due) k.left_due l.left_due;
      due_promise = λ a. each n m a (λ s. seen s v.due w.due ≤ seen s v.promise w.promise) k.due_promise l.due_promise;
      due_zero = λ a. each n m a (λ s. seen s v.left w.left ≡ 0 → seen s v.due w.due ≡ 0) k.due_zero l.due_zero;
    }

-- the pair's numbers of actors never change
module _ (v w v' w' : View) (s : SameTerms v v') (t : SameTerms w w') where
  pub renumbered : (P : View → Type 0) → P (joined_at v.number w.number v' w') → P (joined v' w')
  renumbered P h =
      subst (λ (x : ℕ). P (joined_at x w'.number v' w')) (sym s.number)
      (subst (λ (x : ℕ). P (joined_at v.number x v' w')) (sym t.number) h)

  joined_terms : SameTerms (joined v w) (joined_at v.number w.number v' w')
  joined_terms = record {
    number = refl;
    work = λ a. each v.number w.number a (λ d. seen d v'.work w'.work ≡ seen d v.work w.work) s.work t.work;
    promise = λ a. each v.number w.number a (λ d. seen d v'.promise w'.promise ≡ seen d v.promise w.promise) s.promise t.promise;
  }

pub joined_served : (v w v' w' : View) → Served v v' → Served w w' → Served (joined v w) (joined v' w')
joined_served v w v' w' s t =
    let n = v.number in
    let m = w.number in
    renumbered v w v' w' s.terms t.terms (Served (joined v w)) record {
      terms = joined_terms v w v' w' s.terms t.terms;
      rest = λ a. each n m a (λ d. seen d v.left w.left ≡ 0 → seen d v'.left w'.left ≡ 0) s.rest t.rest;
      slow = λ a. each n m a (λ d. seen d v.left w.left ≤ seen d v'.left w'.left + 1) s.slow t.slow;
      falls = λ a. each n m a (λ d. seen d v'.left w'.left ≤ seen d v.left w.left) s.falls t.falls;
      nearer = λ a. each n m a (λ d. 0 < seen d v.left w.left → seen d v'.due w'.due + 1 ≤ seen d v.due w.due) s.nearer t.nearer;
    }

pub joined_cleared : (v w v' w' : View) → Cleared v v' → Cleared w w' → Cleared (joined v w) (joined v' w')
joined_cleared v w v' w' s t =
    renumbered v w v' w' s.terms t.terms (Cleared (joined v w)) record {
      terms = joined_terms v w v' w' s.terms t.terms;
      none = λ a. each v.number w.number a (λ d. seen d v'.left w'.left ≡ 0) s.none t.none;
    }

same_terms : (v : View) → SameTerms v v
same_terms v = record { number = refl; work = λ a. refl; promise = λ a. refl }

pub joined_first : (v w v' : View) (a : ℕ) → Laid v v' a → Laid (joined v w) (joined v' w) a
joined_first v w v' a l =
    let n = v.number in
    let m = w.number in
    let here = side_before n m a l.present in
    renumbered v w v' w l.terms (same_terms w) (λ x. Laid (joined v w) x a) record {
      terms = joined_terms v w v' w l.terms (same_terms w);
      present = numbered (λ x. a < x) n m (λ _. omega (arith, l.present)) (λ _. l.present);
      idle = ap (λ (d : Side). seen d v.left w.left) here ∙ l.idle;
      given = ap (λ (d : Side). seen d v'.left w.left) here ∙ l.given ∙ sym (ap (λ (d : Side). seen d v.work w.work) here);
      others = λ b o. by_side n m b (λ d. seen d v'.left w.left ≡ seen d v.left w.left) (λ _. l.others b o) (λ _. l.others b o) (λ _ _. refl);
      no_later = λ b o. by_side n m b (λ d. seen d v'.due w.due ≤ seen d v.due w.due) (λ _. l.no_later b o) (λ _. l.no_later b o) (λ _ _. omega arith);
    }

pub joined_second : (v w w' : View) (a : ℕ) → v.number ≤ a → v.number + w.number ≤ 16 → Laid w w' (a - v.number) → Laid (joined v w) (joined v w') a
joined_second v w w' a h few l =
    let n = v.number in
    let m = w.number in
    let here = side_after n m a h few in
    renumbered v w v w' (same_terms v) l.terms (λ x. Laid (joined v w) x a) record {
      terms = joined_terms v w v w' (same_terms v) l.terms;
      present = numbered (λ x. a < x) n m (λ _. omega (arith, l.present)) (λ c. absurd (omega arith));
      idle = ap (λ (d : Side). seen d v.left w.left) here ∙ l.idle;
      given = ap (λ (d : Side). seen d v.left w'.left) here ∙ l.given ∙ sym (ap (λ (d : Side). seen d v.work w.work) here);
      others = λ b o. by_side n m b (λ d. seen d v.left w'.left ≡ seen d v.left w.left) (λ _. refl) (λ _. refl) (λ i _. l.others (b - n) (λ e. o (omega arith)));
      no_later = λ b o. by_side n m b (λ d. seen d v.due w'.due ≤ seen d v.due w.due) (λ _. omega arith) (λ _. omega arith) (λ i _. l.no_later (b - n) (λ e. o (omega arith)));
    }

module _ (v w : View) where
  shown_first : (a : ℕ) → side v.number w.number a ≡ First a → ShowsAt v a (joined v w) a
  shown_first a e = record {
    work = ap (λ (d : Side). seen d v.work w.work) e;
    promise = ap (λ (d : Side). seen d v.promise w.promise) e;
    left = ap (λ (d : Side). seen d v.left w.left) e;
    due = ap (λ (d : Side). seen d v.due w.due) e;
  }

  shown_second : (b a : ℕ) → side v.number w.number a ≡ Second b → ShowsAt w b (joined v w) a
  shown_second b a e = record {
    work = ap (λ (d : Side). seen d v.work w.work) e;
    promise = ap (λ (d : Side). seen d v.promise w.promise) e;
    left = ap (λ (d : Side). seen d v.left w.left) e;
    due = ap (λ (d : Side). seen d v.due w.due) e;
  }

pub joined_made : (v w : View) → PairMade v w (joined v w)
joined_made v w =
    let n = v.number in
    let m = w.number in
    record {
      taken = λ few. record {
        number = cond-true _ _ _ (le-leb (n + m) 16 few);
        first = λ a h. shown_first v w a (side_before n m a h);
        second = λ b. let e : (n + b) - n ≡ b = omega arith in shown_second v w b (n + b) (side_after n m (n + b) (omega arith) few ∙ ap Second e);
      };
      refused = λ crowd. record { number = cond-false _ _ _ (lt-leb (n + m) 16 crowd); each = λ a. shown_first v w a (side_crowd n m a crowd) };
    }

module _ {X Y : Type 0} (v : X → View) (w : Y → View) (f : X → ℕ → X → Type 0) (g : Y → ℕ → Y → Type 0)
    (f-laid : (x x' : X) (a : ℕ) → f x a x' → Laid (v x) (v x') a) (g-laid : (y y' : Y) (a : ℕ) → g y a y' → Laid (w y) (w y') a) where
  -- a lay at the side that has the actor
  pub joined_lays : (x x' : X) (y y' : Y) (a : ℕ) → PairLays f g (side (v x).number (w y).number a) x y x' y' → Laid (joined (v x) (w y)) (joined (v x') (w y')) a
  joined_lays x x' y y' a =
      let first : (f x a x' × (y' ≡ y)) → Laid (joined (v x) (w y)) (joined (v x') (w y')) a =
      λ t. subst (λ (z : Y). Laid (joined (v x) (w y)) (joined (v x') (w z)) a) (sym t.1) (joined_first (v x) (w y) (v x') a (f-laid x x' a t.0)) in
      by_side (v x).number (w y).number a (λ d. PairLays f g d x y x' y' → Laid (joined (v x) (w y)) (joined (v x') (w y')) a)
      (λ _. first)
      (λ _. first)
      (λ h few t. subst (λ (z : X). Laid (joined (v x) (w y)) (joined (v z) (w y')) a) (sym t.0) (joined_second (v x) (w y) (w y') a h few (g-laid y y' (a - (v x).number) t.1)))
