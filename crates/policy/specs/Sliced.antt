-- A slice keeps the meaning of the policy below. Assumes nothing.
use Rattle.std.specs.Prelude.{◌≡◌, ℕ, ◌+◌, ◌<◌, ◌≤◌, Bool, true, false, cond, leb, nat_le, refl}
use Rattle.std.proofs.Common.{sym, ap, subst, ◌∙◌, ⊎_elim, arith}
use Rattle.std.proofs.lemmas.Bool.{cases_lt, cases_Bool, leb-true, le-leb, lt-leb}
use Rattle.policy.specs.Round.{after}
use Rattle.policy.specs.Meaning.{View, Sound, SameTerms, Served, Cleared, Laid}
use Rattle.policy.specs.Wheel.{wide, wait}
use Rattle.policy.specs.Slices.{shown, sliced, SliceTicks, SliceKeeps, SliceLays}
use Rattle.policy.specs.Wheels.{wide_ge, wide_zero}
use Rattle.policy.specs.Waits.{wait_ge, wait_mono, wait_wide, wait_served, wait_passed, wait_none}

by_fit : (l : ℕ) (P : Bool → Type 0) → (l ≤ 65535 → P true) → (65535 < l → P false) → P (nat_le l 65535)
by_fit l P f g =
    ⊎_elim (λ h. subst P (sym (lt-leb l 65535 h)) (g h)) (λ h. subst P (sym (le-leb l 65535 h)) (f h)) (cases_lt 65535 l)

-- a number that is shown, or 0
by_shown : (P : ℕ → Type 0) (p n : ℕ) → (p ≤ 65535 → P n) → P 0 → P (shown p n)
by_shown P p n f z =
    ⊎_elim
    (λ (e : leb p 65535 ≡ true). subst (λ (b : Bool). P (cond b n 0)) (sym e) (f (leb-true p 65535 e)))
    (λ (e : leb p 65535 ≡ false). subst (λ (b : Bool). P (cond b n 0)) (sym e) z)
    (cases_Bool (nat_le p 65535))

-- two numbers under one promise
by_shown_2 : (R : ℕ → ℕ → Type 0) (p q m n : ℕ) → q ≡ p → (p ≤ 65535 → R m n) → R 0 0 → R (shown p m) (shown q n)
by_shown_2 R p q m n e f z =
    subst (λ (x : ℕ). R (shown p m) (shown x n)) (sym e)
    (⊎_elim
    (λ (t : leb p 65535 ≡ true). subst (λ (b : Bool). R (cond b m 0) (cond b n 0)) (sym t) (f (leb-true p 65535 t)))
    (λ (t : leb p 65535 ≡ false). subst (λ (b : Bool). R (cond b m 0) (cond b n 0)) (sym t) z)
    (cases_Bool (nat_le p 65535)))

module _ (p s w : ℕ) (one : 0 < s) (within : s ≤ p) (on : w < p) where
  pub sliced_sound : (v : View) → Sound v → Sound (sliced v p s w)
  sliced_sound v k = record {
    few = k.few;
    left_work = λ a. by_shown_2 (λ x y. x ≤ y) (wide p s (v.promise a)) (wide p s (v.promise a)) (v.left a) (v.work a) refl (λ _. k.left_work a) (omega arith);
    work_promise = λ a. by_shown_2 (λ x y. x ≤ y) (wide p s (v.promise a)) (wide p s (v.promise a)) (v.work a) (wide p s (v.promise a)) refl (λ _. omega (arith, k.work_promise a, wide_ge p s (v.promise a))) (omega arith);
    promise_limit = λ a. by_shown (λ x. x ≤ 65535) (wide p s (v.promise a)) (wide p s (v.promise a)) (λ h. h) (omega arith);
    left_due = λ a. by_shown_2 (λ x y. x ≤ y) (wide p s (v.promise a)) (wide p s (v.promise a)) (v.left a) (wait p s w (v.due a)) refl (λ _. omega (arith, k.left_due a, wait_ge p s w one within on (v.due a))) (omega arith);
    due_promise = λ a. by_shown_2 (λ x y. x ≤ y) (wide p s (v.promise a)) (wide p s (v.promise a)) (wait p s w (v.due a)) (wide p s (v.promise a)) refl (λ _. wait_wide p s w one within on (v.due a) (v.promise a) (k.due_promise a)) (omega arith);
    due_zero = λ a. by_shown_2 (λ x y. x ≡ 0 → y ≡ 0) (wide p s (v.promise a)) (wide p s (v.promise a)) (v.left a) (wait p s w (v.due a)) refl (λ _ z. ap (wait p s w) (k.due_zero a z) ∙ wait_none p s w one within on) (λ z. z);
    absent = λ a h. by_shown (λ x. x ≡ 0) (wide p s (v.promise a)) (wide p s (v.promise a)) (λ _. ap (wide p s) (k.absent a h) ∙ wide_zero p s one) refl;
  }

-- one promise below is one promise above
sliced_terms : (p s w u : ℕ) (v x : View) → SameTerms v x → SameTerms (sliced v p s w) (sliced x p s u)
sliced_terms p s w u v x t = record {
  number = t.number;
  work = λ a. ap (λ n. shown (wide p s n) (x.work a)) (t.promise a) ∙ ap (shown (wide p s (v.promise a))) (t.work a);
  promise = λ a. ap (λ n. shown (wide p s n) (wide p s n)) (t.promise a);
}

same_terms : (v : View) → SameTerms v v
same_terms v = record { number = refl; work = λ a. refl; promise = λ a. refl }

pub shown_is : (p n : ℕ) → p ≤ 65535 → shown p n ≡ n
shown_is p n h = ap (λ (b : Bool). cond b n 0) (le-leb p 65535 h)

unshown : (p n : ℕ) → 65535 < p → shown p n ≡ 0
unshown p n h = ap (λ (b : Bool). cond b n 0) (lt-leb p 65535 h)

nearer_by : (q l m n : ℕ) → (0 < l → m + 1 ≤ n) → 0 < shown q l → shown q m + 1 ≤ shown q n
nearer_by q l m n f =
    ⊎_elim
    (λ (e : leb q 65535 ≡ true). subst (λ (b : Bool). 0 < cond b l 0 → cond b m 0 + 1 ≤ cond b n 0) (sym e) f)
    (λ (e : leb q 65535 ≡ false). subst (λ (b : Bool). 0 < cond b l 0 → cond b m 0 + 1 ≤ cond b n 0) (sym e) (λ (h : 0 < 0). omega arith))
    (cases_Bool (nat_le q 65535))

module _ (p s w : ℕ) (one : 0 < s) (within : s ≤ p) (on : w < p) (v : View) (k : Sound v) where
  wides : (x : View) → SameTerms v x → (a : ℕ) → wide p s (x.promise a) ≡ wide p s (v.promise a)
  wides x t a = ap (wide p s) (t.promise a)

  -- a tick at a position under s
  pub sliced_served : (x : View) → w < s → Served v x → Served (sliced v p s w) (sliced x p s (after p w))
  sliced_served x i t = record {
    terms = sliced_terms p s w (after p w) v x t.terms;
    rest = λ a. by_shown_2 (λ m n. m ≡ 0 → n ≡ 0) (wide p s (v.promise a)) (wide p s (x.promise a)) (v.left a) (x.left a) (wides x t.terms a) (λ _. t.rest a) (λ z. z);
    slow = λ a. by_shown_2 (λ m n. m ≤ n + 1) (wide p s (v.promise a)) (wide p s (x.promise a)) (v.left a) (x.left a) (wides x t.terms a) (λ _. t.slow a) (omega arith);
    falls = λ a. by_shown_2 (λ m n. n ≤ m) (wide p s (v.promise a)) (wide p s (x.promise a)) (v.left a) (x.left a) (wides x t.terms a) (λ _. t.falls a) (omega arith);
    nearer = λ a.
        subst (λ (q : ℕ). 0 < shown (wide p s (v.promise a)) (v.left a) → shown q (wait p s (after p w) (x.due a)) + 1 ≤ shown (wide p s (v.promise a)) (wait p s w (v.due a)))
        (sym (wides x t.terms a))
        (nearer_by (wide p s (v.promise a)) (v.left a) (wait p s (after p w) (x.due a)) (wait p s w (v.due a))
        (λ h. wait_served p s w one within on (v.due a) (x.due a) i (t.nearer a h)));
  }

  -- a tick at another position
  pub sliced_passed : s ≤ w → Served (sliced v p s w) (sliced v p s (after p w))
  sliced_passed i = record {
    terms = sliced_terms p s w (after p w) v v (same_terms v);
    rest = λ a z. z;
    slow = λ a. omega arith;
    falls = λ a. omega arith;
    nearer = λ a. nearer_by (wide p s (v.promise a)) (v.left a) (wait p s (after p w) (v.due a)) (wait p s w (v.due a))
        (λ h. wait_passed p s w one within on (v.due a) i (omega (arith, k.left_due a)));
  }

  pub sliced_cleared : (x : View) → Cleared v x → Cleared (sliced v p s w) (sliced x p s w)
  sliced_cleared x t = record {
    terms = sliced_terms p s w w v x t.terms;
    none = λ a. by_shown (λ n. n ≡ 0) (wide p s (x.promise a)) (x.left a) (λ _. t.none a) refl;
  }

  pub sliced_laid : (x : View) (a : ℕ) → wide p s (v.promise a) ≤ 65535 → Laid v x a → Laid (sliced v p s w) (sliced x p s w) a
  sliced_laid x a h t = record {
    terms = sliced_terms p s w w v x t.terms;
    present = t.present;
    idle = by_shown (λ n. n ≡ 0) (wide p s (v.promise a)) (v.left a) (λ _. t.idle) refl;
    given = by_shown_2 (λ m n. n ≡ m) (wide p s (v.promise a)) (wide p s (x.promise a)) (v.work a) (x.left a) (wides x t.terms a) (λ _. t.given) refl;
    others = λ b o. by_shown_2 (λ m n. n ≡ m) (wide p s (v.promise b)) (wide p s (x.promise b)) (v.left b) (x.left b) (wides x t.terms b) (λ _. t.others b o) refl;
    no_later = λ b o. by_shown_2 (λ m n. n ≤ m) (wide p s (v.promise b)) (wide p s (x.promise b)) (wait p s w (v.due b)) (wait p s w (x.due b)) (wides x t.terms b)
        (λ _. wait_mono p s w one within on (x.due b) (v.due b) (t.no_later b o)) (omega arith);
  }

  -- an actor that does not fit has no work
  pub sliced_unfit : (a : ℕ) → 65535 < wide p s (v.promise a) → a < v.number → Laid (sliced v p s w) (sliced v p s w) a
  sliced_unfit a h i = record {
    terms = sliced_terms p s w w v v (same_terms v);
    present = i;
    idle = unshown (wide p s (v.promise a)) (v.left a) h;
    given = unshown (wide p s (v.promise a)) (v.left a) h ∙ sym (unshown (wide p s (v.promise a)) (v.work a) h);
    others = λ b o. refl;
    no_later = λ b o. omega arith;
  }

-- a tick of a slice, over any policy whose ticks serve
pub sliced_ticks : {X : Type 0} (view : X → View) (ticks : X → X → Type 0) (b : X) (p s w : ℕ) (c : X) (q r u : ℕ) → 0 < s → s ≤ p → w < p → Sound (view b)
    → ((x y : X) → ticks x y → Served (view x) (view y)) → SliceTicks ticks b p s w c q r u → Served (sliced (view b) p s w) (sliced (view c) q r u)
sliced_ticks {X} view ticks b p s w c q r u one within on k law t =
    subst (λ (x : ℕ). Served (sliced (view b) p s w) (sliced (view c) x r u)) (sym t.period)
    (subst (λ (x : ℕ). Served (sliced (view b) p s w) (sliced (view c) p x u)) (sym t.slots)
    (subst (λ (x : ℕ). Served (sliced (view b) p s w) (sliced (view c) p s x)) (sym t.wheel)
    (⊎_elim
    (λ i. sliced_served p s w one within on (view b) k (view c) i (law b c (t.served i)))
    (λ i. subst (λ (x : X). Served (sliced (view b) p s w) (sliced (view x) p s (after p w))) (sym (t.passed i)) (sliced_passed p s w one within on (view b) k i))
    (cases_lt w s))))

module _ {X : Type 0} (view : X → View) (b c : X) (p s w q r u : ℕ) (one : 0 < s) (within : s ≤ p) (on : w < p) (k : Sound (view b)) (same : SliceKeeps p s w q r u) where
  moved : (R : View → Type 0) → R (sliced (view c) p s w) → R (sliced (view c) q r u)
  moved R h =
      subst (λ (x : ℕ). R (sliced (view c) x r u)) (sym same.period)
      (subst (λ (x : ℕ). R (sliced (view c) p x u)) (sym same.slots) (subst (λ (x : ℕ). R (sliced (view c) p s x)) (sym same.wheel) h))

  pub sliced_clears : Cleared (view b) (view c) → Cleared (sliced (view b) p s w) (sliced (view c) q r u)
  sliced_clears t = moved (Cleared (sliced (view b) p s w)) (sliced_cleared p s w one within on (view b) k (view c) t)

  pub sliced_lays : (lays : X → ℕ → X → Type 0) → ((x y : X) (a : ℕ) → lays x a y → Laid (view x) (view y) a) → (a : ℕ) →
      SliceLays view lays (nat_le (wide p s ((view b).promise a)) 65535) b a c → Laid (sliced (view b) p s w) (sliced (view c) q r u) a
  sliced_lays lays law a =
      by_fit (wide p s ((view b).promise a)) (λ f. SliceLays view lays f b a c → Laid (sliced (view b) p s w) (sliced (view c) q r u) a)
      (λ h t. moved (λ x. Laid (sliced (view b) p s w) x a) (sliced_laid p s w one within on (view b) k (view c) a h (law b c a t)))
      (λ h t. moved (λ x. Laid (sliced (view b) p s w) x a)
      (subst (λ (x : X). Laid (sliced (view b) p s w) (sliced (view x) p s w) a) (sym t.1) (sliced_unfit p s w one within on (view b) k a h t.0)))
