-- How the moves of each actor come to stand together, store by store. Assumes nothing.
use Rattle.std.proofs.Common.{◌≡◌, ◌≢◌, ℕ, zero, suc, ◌+◌, ◌<◌, ◌≤◌, true, false, Option, Some, None, List, [], ◌∷◌, ◌++◌, length, set, refl, sym, ap, ◌∙◌, inl, inr, arith, length-set, get_or, get_or-set_same}
use Rattle.std.specs.List.{slice_get}
use Rattle.std.specs.Option.{option_map_or}
use Rattle.std.proofs.lemmas.Bool.{cases_eq, and_from, and_left, and_right, lt-ltb, le-ltb, eq-eqb, ne_eqb}
use Rattle.std.proofs.lemmas.Option.{slice_get_read, slice_get-get_or}
use Rattle.leaps.specs.declared.store.Store.{Store}
use Rattle.leaps.specs.declared.list.Move.{Move}
use Rattle.leaps.specs.declared.list.MoveList.{MoveList}
use Rattle.leaps.specs.Stores.{store_at, is_of, move_at, moves_below, moves_in, list_at}
use Rattle.leaps.proofs.Listed.{moves_few, moves_more, moves_stay}

-- the moves in a list, if there is one
abbrev pub held : Option MoveList → List Move
held l = option_map_or moves_in l []

-- the moves at the first k stores
pub record Gathered (k : ℕ) (ss : List Store) (ls : List MoveList) : Type 0 where
  pub size : length ls ≡ 16
  pub are : (a : ℕ) → list_at ls a ≡ moves_below k ss a

get-set_other : {X : Type 0} (xs : List X) (i j : ℕ) (y : X) → j ≢ i → slice_get (set xs i y) j ≡ slice_get xs j
get-set_other [] i j y ne = refl
get-set_other (x ∷ xs) zero zero y ne = absurd (ne refl)
get-set_other (x ∷ xs) zero (suc j) y ne = refl
get-set_other (x ∷ xs) (suc i) zero y ne = refl
get-set_other (x ∷ xs) (suc i) (suc j) y ne = get-set_other xs i j y (λ e. ne (ap suc e))

module _ (k : ℕ) (ss : List Store) (ls : List MoveList) (h : Gathered k ss ls) where
  -- the next store is nobody's
  gathered_past : ((a : ℕ) → is_of a (store_at ss k) ≡ false) → Gathered (k + 1) ss ls
  gathered_past none = record { size = h.size; are = λ a. h.are a ∙ sym (moves_stay ss a k (none a)) }

  pub gathered_none : (store_at ss k).owner ≡ None → Gathered (k + 1) ss ls
  gathered_none owner = gathered_past (λ a. rw owner refl)

  pub gathered_above : (b : ℕ) → (store_at ss k).owner ≡ Some b → 16 ≤ b → Gathered (k + 1) ss ls
  gathered_above b owner le = gathered_past (λ a. rw owner (and_left _ _ (le-ltb b 16 le)))

  module _ (b : ℕ) (hb : b < 16) (d : MoveList) where
    lt : b < length ls
    lt = omega (arith, h.size)

    old : list_at ls b ≡ moves_in (get_or ls b d)
    old = ap held (slice_get-get_or ls b d lt)

    -- there is room for a move more
    pub gathered_room : k < 64 → length (moves_in (get_or ls b d)) < 64
    gathered_room hk = rw (← old, h.are b) (omega (arith, moves_few ss b k))

    module _ (owner : (store_at ss k).owner ≡ Some b) (l : MoveList) (push : moves_in l ≡ moves_in (get_or ls b d) ++ move_at ss k ∷ []) where
      new : list_at (set ls b l) b ≡ moves_in l
      new = ap held (slice_get_read (set ls b l) 16 b l (sym (simp length-set h.size)) hb (sym (get_or-set_same ls b l l lt)))

      mine : is_of b (store_at ss k) ≡ true
      mine = rw owner (and_from _ _ (lt-ltb b 16 hb) (eq-eqb b b refl))

      others : (a : ℕ) → b ≢ a → is_of a (store_at ss k) ≡ false
      others a ne = rw owner (and_right _ _ (ne_eqb b a ne))

      -- it is b's
      pub gathered_more : Gathered (k + 1) ss (set ls b l)
      gathered_more = record {
        size = simp length-set h.size;
        are = λ a. elim (cases_eq b a) [
          | inl e ↦ rw (← e) (new ∙ push ∙ ap (λ ms. ms ++ move_at ss k ∷ []) (sym old ∙ h.are b) ∙ sym (moves_more ss b k mine))
          | inr ne ↦ ap held (get-set_other ls b a l (λ e. ne (sym e))) ∙ h.are a ∙ sym (moves_stay ss a k (others a ne))
        ];
      }
