-- A ring keeps the meaning of a policy. Assumes nothing.
use Rattle.std.proofs.Common.{◌≡◌, ℕ, zero, suc, ◌+◌, ◌-◌, ◌<◌, ◌≤◌, Bool, true, false, cond, ltb, List, get_or, Some, None, Option, sym, refl, ap, ◌∙◌, subst, ⊎_elim, arith}
use Rattle.std.proofs.lemmas.Bool.{cases_lt, cases_eq, cases_Bool, both_ways, lt-ltb, le-ltb, cond-true, cond-false}
use Rattle.policy.specs.Meaning.{Sound, Served}
use Rattle.policy.specs.Round.{after}
use Rattle.policy.specs.Turns.{total, waiting, next, round, owed, ringed, RingServes, RingRests, RingMoves, RingTicks}
use Rattle.policy.specs.Afters.{after_below}
use Rattle.policy.specs.Dues.{owed_none, owed_ended, owed_other, by_owed}
use Rattle.policy.specs.Sums.{total_next, total_mono, total_limit, ahead, ahead_some, ahead_most, ahead_step, round_ge, round_le, round_other, round_step}

-- what a ring's fields keep
pub record Table (n : ℕ) (ws left : List ℕ) (t : ℕ) (busy : Bool) : Type 0 where
  pub few : n ≤ 16
  pub most : (a : ℕ) → get_or ws a 0 ≤ 4095
  pub past : (a : ℕ) → n ≤ a → get_or ws a 0 ≡ 0
  pub under : (a : ℕ) → get_or left a 0 ≤ get_or ws a 0
  pub on : 0 < n → t < n
  pub going : busy ≡ true → 0 < get_or left t 0

module _ (n : ℕ) (ws left : List ℕ) (t : ℕ) (busy : Bool) (k : Table n ws left t busy) where
  pub present : (a : ℕ) → 0 < get_or left a 0 → a < n
  present a h = ⊎_elim (λ (l : a < n). l) (λ l. absurd (omega (arith, k.under a, k.past a l))) (cases_lt a n)

  pub here : (a : ℕ) → 0 < get_or left a 0 → t < n
  here a h = k.on (omega (arith, present a h))

  pub all_limit : total ws n ≤ 65520
  all_limit = omega (arith, total_limit ws k.most n, k.few)

  work_total : (a : ℕ) → a < n → get_or ws a 0 ≤ total ws n
  work_total a h = omega (arith, total_next ws a, total_mono ws (a + 1) n (omega arith))

  owed_ge : (a : ℕ) → get_or left a 0 ≤ owed n ws left t busy a
  owed_ge a =
      by_owed n ws left t busy a (λ d. get_or left a 0 ≤ d)
      (λ z. omega arith)
      (λ h _. omega (arith, round_ge ws n t a (here a h) (present a h), k.under a))
      (λ h _ _. omega arith)
      (λ h _ _. omega (arith, round_ge ws n t a (here a h) (present a h), k.under a))

  owed_le : (a : ℕ) → a < n → owed n ws left t busy a ≤ total ws n
  owed_le a p =
      by_owed n ws left t busy a (λ d. d ≤ total ws n)
      (λ z. omega arith)
      (λ h _. round_le ws n t a (here a h) p)
      (λ h _ _. omega (arith, work_total a p, k.under a))
      (λ h _ o. omega (arith, round_other ws n t a (here a h) p o, k.under t))

  by_present : (P : ℕ → Type 0) (a : ℕ) → (a < n → P (total ws n)) → (n ≤ a → P 0) → P (cond (ltb a n) (total ws n) 0)
  by_present P a f g =
      ⊎_elim (λ h. subst P (sym (cond-true _ _ _ (lt-ltb a n h))) (f h)) (λ h. subst P (sym (cond-false _ _ _ (le-ltb a n h))) (g h)) (cases_lt a n)

  pub ringed_sound : Sound (ringed n ws left t busy)
  ringed_sound = record {
    few = k.few;
    absent = λ a h. cond-false _ _ _ (le-ltb a n h);
    promise_limit = λ a. by_present (λ p. p ≤ 65535) a (λ _. omega (arith, all_limit)) (λ _. omega arith);
    work_promise = λ a. by_present (λ p. get_or ws a 0 ≤ p) a (work_total a) (λ h. omega (arith, k.past a h));
    left_work = k.under;
    left_due = owed_ge;
    due_promise = λ a. by_present (λ p. owed n ws left t busy a ≤ p) a (owed_le a)
        (λ h. omega (arith, owed_none n ws left t busy a (omega (arith, k.under a, k.past a h))));
    due_zero = λ a z. owed_none n ws left t busy a z;
  }

-- x is served next, and the others that have work left are due no sooner than x's left and the works after x
record Turn (n : ℕ) (ws left : List ℕ) (x : ℕ) (due : ℕ → ℕ) : Type 0 where
  present : x < n
  some : 0 < get_or left x 0
  closer : (b : ℕ) → b < n → 0 < get_or left b 0 → (b ≡ x → ⊥) → get_or left x 0 + round ws n x b ≤ due b

abbrev Found : (n : ℕ) (ws left : List ℕ) (t k : ℕ) → Option ℕ → Type 0
Found n ws left t k (Some x) = Turn n ws left x (round ws n t)
Found n ws left t k None = (b : ℕ) → b < n → ahead n t b ≤ k → get_or left b 0 ≡ 0

module _ (n : ℕ) (ws left : List ℕ) (under : (a : ℕ) → get_or left a 0 ≤ get_or ws a 0) where
  -- the actor after t has no work left, and is passed over
  pass : (t k : ℕ) → t < n → get_or left (after n t) 0 ≡ 0 → (o : Option ℕ) → Found n ws left (after n t) k o → Found n ws left t (suc k) o
  pass t k on z (Some x) f = record {
    present = f.present;
    some = f.some;
    closer = λ b p h o. omega (arith, f.closer b p h o, round_step ws n t b on p (λ e. omega (arith, ap (λ y. get_or left y 0) e)));
  }
  pass t k on z None f = λ b p h.
      ⊎_elim (λ e. ap (λ y. get_or left y 0) e ∙ z) (λ o. f b p (omega (arith, ahead_step n t b on p o))) (cases_eq b (after n t))

  found : (k t : ℕ) → t < n → Found n ws left t k (waiting n left t k)
  found zero t on = λ b p h. absurd (omega (arith, ahead_some n t b on p))
  found (suc k) t on =
      let x = after n t in
      ⊎_elim
      (λ h.
      subst (Found n ws left t (suc k)) (sym (cond-true _ (Some x) (waiting n left x k) (lt-ltb 0 (get_or left x 0) h))) record {
        present = after_below n t on;
        some = h;
        closer = λ b p i o. omega (arith, under x, round_step ws n t b on p o);
      })
      (λ h.
      subst (Found n ws left t (suc k)) (sym (cond-false _ (Some x) (waiting n left x k) (le-ltb 0 (get_or left x 0) h)))
      (pass t k on (omega arith) (waiting n left x k) (found k x (after_below n t on))))
      (cases_lt 0 (get_or left x 0))

abbrev Turns : (n : ℕ) (ws left : List ℕ) (due : ℕ → ℕ) → Option ℕ → Type 0
Turns n ws left due (Some x) = Turn n ws left x due
Turns n ws left due None = (b : ℕ) → get_or left b 0 ≡ 0

module _ (n : ℕ) (ws left : List ℕ) (t : ℕ) (busy : Bool) (k : Table n ws left t busy) where
  ended : busy ≡ false → (o : Option ℕ) → Found n ws left t n o → Turns n ws left (owed n ws left t busy) o
  ended f (Some x) s = record {
    present = s.present;
    some = s.some;
    closer = λ b p h o. omega (arith, s.closer b p h o, owed_ended n ws left t busy b h f);
  }
  ended f None s = λ b.
      ⊎_elim
      (λ h. s b (present n ws left t busy k b h) (ahead_most n t b (here n ws left t busy k b h) (present n ws left t busy k b h)))
      (λ h. omega arith)
      (cases_lt 0 (get_or left b 0))

  goes : busy ≡ true → Turn n ws left t (owed n ws left t busy)
  goes f = record {
    present = present n ws left t busy k t (k.going f);
    some = k.going f;
    closer = λ b p h o. omega (arith, owed_other n ws left t busy b h f o);
  }

  nobody : n ≡ 0 → Turns n ws left (owed n ws left t busy) None
  nobody e = λ b. omega (arith, k.under b, k.past b (omega arith))

  turns : Turns n ws left (owed n ws left t busy) (next n left t busy)
  turns =
      ⊎_elim
      (λ f. subst (Turns n ws left (owed n ws left t busy)) (sym (cond-true busy (Some t) (waiting n left t n) f)) (goes f))
      (λ f.
      subst (Turns n ws left (owed n ws left t busy)) (sym (cond-false busy (Some t) (waiting n left t n) f))
      (⊎_elim
      (λ h. ended f (waiting n left t n) (found n ws left k.under n t (k.on h)))
      (λ h. let z : n ≡ 0 = omega arith in subst (λ (m : ℕ). Turns n ws left (owed n ws left t busy) (waiting n left t m)) (sym z) (nobody z))
      (cases_lt 0 n)))
      (cases_Bool busy)

  -- who is served next is there and has work left
  pub next_has : (x : ℕ) → next n left t busy ≡ Some x → (x < n) × (0 < get_or left x 0)
  next_has x e = let u : Turn n ws left x (owed n ws left t busy) = subst (Turns n ws left (owed n ws left t busy)) e turns in (u.present, u.some)

  module _ (left' : List ℕ) (t' : ℕ) (busy' : Bool) where
    rested : ((b : ℕ) → get_or left b 0 ≡ 0) → RingRests left t busy left' t' busy' → Served (ringed n ws left t busy) (ringed n ws left' t' busy')
    rested none r =
        let same : (a : ℕ) → get_or left' a 0 ≡ get_or left a 0 = λ a. ap (λ ls. get_or ls a 0) r.lefts in
        record {
          terms = record { number = refl; work = λ a. refl; promise = λ a. refl };
          rest = λ a z. same a ∙ z;
          slow = λ a. omega (arith, same a);
          falls = λ a. omega (arith, same a);
          nearer = λ a h. absurd (omega (arith, none a));
        }

    module _ (x : ℕ) (u : Turn n ws left x (owed n ws left t busy)) (m : RingServes left x left' t' busy') where
      left_by : (P : ℕ → Type 0) (a : ℕ) → (a ≡ x → P (get_or left x 0 - 1)) → ((a ≡ x → ⊥) → P (get_or left a 0)) → P (get_or left' a 0)
      left_by P a f g =
          ⊎_elim (λ e. subst P (sym (ap (λ j. get_or left' j 0) e ∙ m.served)) (f e)) (λ o. subst P (sym (m.others a o)) (g o)) (cases_eq a x)

      -- due after the tick: of x what is left, of another that and the works after x
      due_own : owed n ws left' x (ltb 0 (get_or left' x 0)) x ≤ get_or left' x 0
      due_own =
          by_owed n ws left' x (ltb 0 (get_or left' x 0)) x (λ d. d ≤ get_or left' x 0)
          (λ z. omega arith)
          (λ h f. absurd (both_ways (ltb 0 (get_or left' x 0)) f (lt-ltb 0 (get_or left' x 0) h)))
          (λ h _ _. omega arith)
          (λ h _ o. absurd (o refl))

      due_other : (a : ℕ) → 0 < get_or left' a 0 → (a ≡ x → ⊥) → owed n ws left' x (ltb 0 (get_or left' x 0)) a ≡ get_or left' x 0 + round ws n x a
      due_other a h o =
          ⊎_elim
          (λ i. owed_other n ws left' x (ltb 0 (get_or left' x 0)) a h (lt-ltb 0 (get_or left' x 0) i) o)
          (λ i. omega (arith, owed_ended n ws left' x (ltb 0 (get_or left' x 0)) a h (le-ltb 0 (get_or left' x 0) i)))
          (cases_lt 0 (get_or left' x 0))

      sooner : (a : ℕ) → 0 < get_or left a 0 → owed n ws left' x (ltb 0 (get_or left' x 0)) a + 1 ≤ owed n ws left t busy a
      sooner a h =
          ⊎_elim
          (λ e.
          subst (λ (j : ℕ). owed n ws left' x (ltb 0 (get_or left' x 0)) j + 1 ≤ owed n ws left t busy j) (sym e)
          (omega (arith, due_own, m.served, u.some, owed_ge n ws left t busy k x)))
          (λ o.
          let l : 0 < get_or left' a 0 = omega (arith, m.others a o) in
          omega (arith, due_other a l o, m.served, u.some, u.closer a (present n ws left t busy k a h) h o))
          (cases_eq a x)

      served : Served (ringed n ws left t busy) (ringed n ws left' x (ltb 0 (get_or left' x 0)))
      served = record {
        terms = record { number = refl; work = λ a. refl; promise = λ a. refl };
        rest = λ a z. left_by (λ l. l ≡ 0) a (λ e. omega (arith, ap (λ j. get_or left j 0) e)) (λ o. z);
        slow = λ a. left_by (λ l. get_or left a 0 ≤ l + 1) a (λ e. omega (arith, ap (λ j. get_or left j 0) e)) (λ o. omega arith);
        falls = λ a. left_by (λ l. l ≤ get_or left a 0) a (λ e. omega (arith, ap (λ j. get_or left j 0) e)) (λ o. omega arith);
        nearer = sooner;
      }

    moved : (o : Option ℕ) → Turns n ws left (owed n ws left t busy) o → RingMoves o left t busy left' t' busy' → Served (ringed n ws left t busy) (ringed n ws left' t' busy')
    moved (Some x) u m =
        subst (λ (j : ℕ). Served (ringed n ws left t busy) (ringed n ws left' j busy')) (sym m.turn)
        (subst (λ (d : Bool). Served (ringed n ws left t busy) (ringed n ws left' x d)) (sym m.busy) (served x u m))
    moved None u m = rested u m

  pub ringed_ticks : (n' : ℕ) (ws' left' : List ℕ) (t' : ℕ) (busy' : Bool) → RingTicks n ws left t busy n' ws' left' t' busy' → Served (ringed n ws left t busy) (ringed n' ws' left' t' busy')
  ringed_ticks n' ws' left' t' busy' e =
      subst (λ (j : ℕ). Served (ringed n ws left t busy) (ringed j ws' left' t' busy')) (sym e.number)
      (subst (λ (us : List ℕ). Served (ringed n ws left t busy) (ringed n us left' t' busy')) (sym e.works)
      (moved left' t' busy' (next n left t busy) turns e.moves))
