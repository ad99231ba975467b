-- An actor's moves, store by store. Assumes nothing.
use Rattle.std.proofs.Common.{◌≡◌, ◌≢◌, ℕ, zero, suc, ◌+◌, ◌<◌, ◌≤◌, Bool, true, false, nat_le, List, [], ◌∷◌, ◌++◌, length, All, refl, ap₂, ◌∙◌, inl, inr, zero-add, add-zero, arith, add-one}
use Rattle.std.specs.List.{sum_by, list_all}
use Rattle.std.proofs.lemmas.Bool.{cases_Bool, cases_eq, cond_both, cond-true, cond-false, eq-eqb, ne_eqb, le-leb}
use Rattle.std.proofs.lemmas.List.{length-append}
use Rattle.std.proofs.lemmas.List.Sums.{sum_by_push}
use Rattle.std.proofs.lemmas.List.Elements.{All-nil, All-push}
use Rattle.std.proofs.lemmas.List.Folds.{list_all-append}
use Rattle.model.specs.Net.{every}
use Rattle.runs.specs.Seen.{at}
use Rattle.leaps.specs.declared.store.Store.{Store}
use Rattle.leaps.specs.declared.list.Move.{Move}
use Rattle.leaps.specs.declared.moves.Moves.{Moves}
use Rattle.leaps.specs.Stores.{store_at, is_of, rate_of, move_at, moves_below, moved}
use Rattle.leaps.specs.Moves.{has}

module _ (ss : List Store) (a : ℕ) where
  -- a move at the next store, if it is the actor's
  pub moves_more : (k : ℕ) → is_of a (store_at ss k) ≡ true → moves_below (k + 1) ss a ≡ moves_below k ss a ++ move_at ss k ∷ []
  moves_more k own = rw add-one (cond-true _ _ _ own)

  pub moves_stay : (k : ℕ) → is_of a (store_at ss k) ≡ false → moves_below (k + 1) ss a ≡ moves_below k ss a
  moves_stay k other = rw add-one (cond-false _ _ _ other)

  -- what holds with it and without
  next : (P : List Move → Type 0) (k : ℕ) → P (moves_below k ss a ++ move_at ss k ∷ []) → P (moves_below k ss a) → P (moves_below (suc k) ss a)
  next P k more stay = cond_both (is_of a (store_at ss k)) _ _ P (λ _. more) (λ _. stay)

  pub moves_few : (k : ℕ) → length (moves_below k ss a) ≤ k
  moves_few zero = omega arith
  moves_few (suc k) = next (λ ms. length ms ≤ suc k) k (simp length-append (omega (arith, moves_few k))) (omega (arith, moves_few k))

  pub moves_within : (n k : ℕ) → k ≤ n → All (λ m. m.store < n) (moves_below k ss a)
  moves_within n zero le = All-nil _
  moves_within n (suc k) le =
      let rest : All (λ m. m.store < n) (moves_below k ss a) = moves_within n k (omega arith) in
      next (All (λ m. m.store < n)) k (All-push (λ m. m.store < n) _ (move_at ss k) rest (omega arith)) rest

  module _ (e : ℕ) where
    abbrev sum_at : List Move → ℕ
    sum_at = sum_by (moved e)

    -- the next store's own rate comes to it, and nothing to another
    push : (k n r : ℕ) → sum_at (moves_below k ss a) ≡ n → moved e (move_at ss k) ≡ r → sum_at (moves_below k ss a ++ move_at ss k ∷ []) ≡ n + r
    push k n r is here = sum_by_push (moved e) (moves_below k ss a) (move_at ss k) ∙ ap₂ ◌+◌ is here

    other : (k : ℕ) → k ≢ e → moved e (move_at ss k) ≡ 0
    other k ne = rw (ne_eqb k e ne)

    own : (k : ℕ) → k ≡ e → moved e (move_at ss k) ≡ (store_at ss e).rate
    own k is = rw (is, eq-eqb e e refl)

    -- nothing is moved at a store that is not among the first
    moves_past : (k : ℕ) → k ≤ e → sum_at (moves_below k ss a) ≡ 0
    moves_past zero le = refl
    moves_past (suc k) le =
        let rest : sum_at (moves_below k ss a) ≡ 0 = moves_past k (omega arith) in
        next (λ ms. sum_at ms ≡ 0) k (push k 0 0 rest (other k (omega arith))) rest

    -- at each of them its rate is moved, if it is the actor's
    pub moves_sum : (k : ℕ) → e < k → sum_at (moves_below k ss a) ≡ rate_of ss a e
    moves_sum zero lt = absurd (omega arith)
    moves_sum (suc k) lt = elim (cases_eq k e) [
      | inl here ↦
          let none : sum_at (moves_below e ss a) ≡ 0 = moves_past e (omega arith) in
          rw here (elim (cases_Bool (is_of a (store_at ss e))) [
            | inl mine ↦ rw mine (push e 0 _ none (own e refl) ∙ zero-add _)
            | inr not_mine ↦ rw not_mine none
          ])
      | inr ne ↦
          let rest : sum_at (moves_below k ss a) ≡ rate_of ss a e = moves_sum k (omega arith) in
          next (λ ms. sum_at ms ≡ rate_of ss a e) k (push k _ 0 rest (other k ne) ∙ add-zero _) rest
    ]

-- a move finds its rate
abbrev pub fits : List ℕ → Move → Bool
fits xs m = nat_le m.rate (at xs m.store)

-- each of the moves does, if each store has the actor's rate there
pub moves_fit : (m : Moves) (a : ℕ) (xs : List ℕ) (k : ℕ) → list_all (fits xs) (moves_below k m.stores a) ≡ every k (has m a xs)
moves_fit m a xs zero = refl
moves_fit m a xs (suc k) = elim (cases_Bool (is_of a (store_at m.stores k))) [
  | inl own ↦ rw own (list_all-append (fits xs) (moves_below k m.stores a) (move_at m.stores k ∷ []) ∙ grind (arith, moves_fit m a xs k))
  | inr other ↦ rw (other, le-leb 0 (at xs k) (omega arith)) (moves_fit m a xs k)
]
