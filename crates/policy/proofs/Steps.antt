-- One round of a ring, as the list of its actors. Assumes nothing.
use Rattle.std.proofs.Common.{◌≡◌, ℕ, zero, suc, ◌+◌, ◌-◌, ◌<◌, ◌≤◌, Bool, false, cond, eqb, ltb, List, [], ◌++◌, length, get_or, Some, None, Option, MatchOption, ⊎_elim, refl, sym, ap, ◌∙◌, add-one, append-nil, arith}
use Rattle.std.specs.List.{find, range_with_len}
use Rattle.std.specs.Option.{option_or}
use Rattle.std.proofs.lemmas.Bool.{cases_lt, lt-ltb, le-ltb, eq-eqb, ne_eqb, cond-true, cond-false}
use Rattle.policy.specs.Round.{after}
use Rattle.policy.specs.declared.ring.Ring.{Ring}
use Rattle.policy.specs.Works.{lefts_of}
use Rattle.policy.specs.Turns.{waiting, next, works_to}
use Rattle.policy.specs.Rings.{under, past}

-- those after t, and then those up to t
abbrev pub round_of : ℕ → ℕ → List ℕ
round_of n t = range_with_len (t + 1) (n - (t + 1)) ++ range_with_len 0 (t + 1)

abbrev pub has : List ℕ → ℕ → Bool
has left a = ltb 0 (get_or left a 0)

pub either : {P : Type 0} (o r s : Option ℕ) → MatchOption o P (λ x. r ≡ Some x) → (P → r ≡ s) → r ≡ option_or o s
either None r s m f = f m
either (Some x) r s m f = m

module _ (n : ℕ) (left : List ℕ) where
  -- m actors on without going round, and then the rest
  on : (rest : List ℕ) (m t k j u : ℕ) → j ≡ m + k → u ≡ t + m → u < n → waiting n left u k ≡ find (has left) rest → waiting n left t j ≡ find (has left) (range_with_len (t + 1) m ++ rest)
  on rest zero t k j u e f h w =
      let x : j ≡ k = omega arith in
      let y : t ≡ u = omega arith in
      ap (waiting n left t) x ∙ ap (λ z. waiting n left z k) y ∙ w
  on rest (suc m) t k j u e f h w =
      let x : j ≡ suc (m + k) = omega arith in
      let a : after n t ≡ t + 1 = cond-true _ _ _ (lt-ltb (t + 1) n (omega arith)) in
      ap (waiting n left t) x
      ∙ ap (λ y. cond (ltb 0 (get_or left y 0)) (Some y) (waiting n left y (m + k))) a
      ∙ ap (λ o. cond (ltb 0 (get_or left (t + 1) 0)) (Some (t + 1)) o) (on rest m (t + 1) k (m + k) u refl (omega arith) h w)

  -- from the last actor it goes round
  back : (t : ℕ) → t < n → waiting n left (n - 1) (suc t) ≡ find (has left) (range_with_len 0 (suc t))
  back t h =
      let a : after n (n - 1) ≡ 0 = cond-false _ _ _ (le-ltb ((n - 1) + 1) n (omega arith)) in
      ap (λ y. cond (ltb 0 (get_or left y 0)) (Some y) (waiting n left y t)) a
      ∙ ap (λ o. cond (ltb 0 (get_or left 0 0)) (Some 0) o) (on [] t 0 0 t t (omega arith) (omega arith) h refl ∙ ap (find (has left)) (append-nil (range_with_len (0 + 1) t)))

  pub waiting_round : (t : ℕ) → t < n → waiting n left t n ≡ find (has left) (round_of n t)
  waiting_round t h =
      on (range_with_len 0 (t + 1)) (n - (t + 1)) t (t + 1) n (n - 1) (omega arith) (omega arith) (omega arith)
      (ap (waiting n left (n - 1)) (add-one t) ∙ back t h ∙ ap (λ k. find (has left) (range_with_len 0 k)) (sym (add-one t)))

-- between turns the next is the first one of the round, if there are actors
pub next_round : (p : Ring) → p.busy ≡ false → next (length p.rows.list.items) (lefts_of p.rows.list.items) p.turn p.busy ≡ find (has (lefts_of p.rows.list.items)) (round_of (length p.rows.list.items) p.turn)
next_round p f =
    let n = length p.rows.list.items in
    let left = lefts_of p.rows.list.items in
    cond-false p.busy (Some p.turn) (waiting n left p.turn n) f
    ∙ ⊎_elim
    (λ h. waiting_round n left p.turn (omega (arith, p.on)))
    (λ h.
    let none : n ≡ 0 = omega arith in
    let first : p.turn ≡ 0 = omega (arith, p.on) in
    let idle : get_or left 0 0 ≤ 0 = omega (arith, under p.rows 0, past p.rows 0 h) in
    ap (λ k. waiting k left p.turn k) none
    ∙ sym (ap (λ k. find (has left) (round_of k p.turn)) none ∙ ap (λ t. find (has left) (round_of 0 t)) first ∙ cond-false _ _ _ (le-ltb 0 (get_or left 0 0) idle)))
    (cases_lt 0 n)

-- of n steps, i are done
one_more : (n i : ℕ) → i < n → n - i ≡ suc (n - (i + 1))
one_more n i h = let e : n - i ≡ (n - (i + 1)) + 1 = omega arith in e ∙ add-one (n - (i + 1))

module _ (ws : List ℕ) (n a b i : ℕ) (h : i < n) (x : ℕ) (e : x ≡ after n a) where
  summed : works_to ws n a b (n - i) ≡ get_or ws x 0 + cond (eqb x b) 0 (works_to ws n x b (n - (i + 1)))
  summed = ap (works_to ws n a b) (one_more n i h) ∙ ap (λ y. get_or ws y 0 + cond (eqb y b) 0 (works_to ws n y b (n - (i + 1)))) (sym e)

  pub works_to_last : x ≡ b → works_to ws n a b (n - i) ≡ get_or ws x 0
  works_to_last k = omega (arith, summed, cond-true (eqb x b) 0 (works_to ws n x b (n - (i + 1))) (eq-eqb x b k))

  pub works_to_passed : (x ≡ b → ⊥) → works_to ws n a b (n - i) ≡ get_or ws x 0 + works_to ws n x b (n - (i + 1))
  works_to_passed o = omega (arith, summed, cond-false (eqb x b) 0 (works_to ws n x b (n - (i + 1))) (ne_eqb x b o))
