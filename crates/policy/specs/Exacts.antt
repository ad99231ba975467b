-- Free and ring have one outcome for each call. Assumes nothing.
use Rattle.std.specs.Prelude.{◌≡◌, ℕ, zero, suc, ◌-◌, Bool, cond, ltb, List, Some, None, Option, nat_lt, length, slice_index, slice_index_or, refl}
use Rattle.std.proofs.Common.{sym, ap, subst, ◌∙◌, inl, inr}
use Rattle.std.proofs.lemmas.Bool.{cases_eq}
use Rattle.policy.specs.declared.rows.Rows.{Rows}
use Rattle.policy.specs.Round.{after}
use Rattle.policy.specs.Works.{works_of, lefts_of, RowsLaid, RowsCleared}
use Rattle.policy.specs.Turns.{total, waiting, next, owed, RingMoves}
use Rattle.policy.specs.declared.free.Free.{Free}
use Rattle.policy.specs.Like.{RowsLike, RingLike}
use Rattle.policy.specs.Members.{Exact, free, ring}

rows_same : (p : Rows) → RowsLike p p
rows_same p = record { number = refl; works = refl; left = λ a. refl }

module _ (p p' q q' : Rows) (e : RowsLike p q) where
  laid_like : (a : ℕ) → RowsLaid p.list.items a p'.list.items → RowsLaid q.list.items a q'.list.items → RowsLike p' q'
  laid_like a x y = record {
    number = x.number ∙ e.number ∙ sym y.number;
    works = x.works ∙ e.works ∙ sym y.works;
    left = λ b. elim (cases_eq b a) [
      | inl same ↦ ap (λ z. slice_index (lefts_of p'.list.items) z) same ∙ x.given ∙ ap (λ ws. slice_index ws a) e.works ∙ sym y.given ∙ ap (λ z. slice_index (lefts_of q'.list.items) z) (sym same)
      | inr other ↦ x.others b other ∙ e.left b ∙ sym (y.others b other)
    ];
  }

  cleared_like : RowsCleared p.list.items p'.list.items → RowsCleared q.list.items q'.list.items → RowsLike p' q'
  cleared_like x y = record {
    number = x.number ∙ e.number ∙ sym y.number;
    works = x.works ∙ e.works ∙ sym y.works;
    left = λ a. x.none a ∙ sym (y.none a);
  }

pub free_exact : Exact free (λ (p q : Free). RowsLike p.rows q.rows)
free_exact = record {
  same = λ p. rows_same p.rows;
  number = λ p q e. e.number;
  work = λ p q e a. ap (λ ws. slice_index ws a) e.works;
  promise = λ p q e a. ap (λ ws. slice_index ws a) e.works;
  left = λ p q e. e.left;
  due = λ p q e. e.left;
  ticks = λ p p' q q' e x y. record {
    number = x.number ∙ e.number ∙ sym y.number;
    works = x.works ∙ e.works ∙ sym y.works;
    left = λ a. x.served a ∙ ap (λ l. l - 1) (e.left a) ∙ sym (y.served a);
  };
  lays = λ p p' q q' a e x y. laid_like p.rows p'.rows q.rows q'.rows e a x y;
  clears = λ p p' q q' e x y. cleared_like p.rows p'.rows q.rows q'.rows e x y;
}

-- who waits depends on how much is left of each, and on no more
module _ (n : ℕ) (l m : List ℕ) (e : (a : ℕ) → slice_index l a ≡ slice_index m a) where
  waiting_like : (k t : ℕ) → waiting n l t k ≡ waiting n m t k
  waiting_like zero t = refl
  waiting_like (suc k) t =
      ap (λ x. cond (nat_lt 0 x) (Some (after n t)) (waiting n l (after n t) k)) (e (after n t))
      ∙ ap (λ o. cond (nat_lt 0 (slice_index m (after n t))) (Some (after n t)) o) (waiting_like k (after n t))

  next_like : (t : ℕ) (busy : Bool) → next n l t busy ≡ next n m t busy
  next_like t busy = ap (λ o. cond busy (Some t) o) (waiting_like n t)

  owed_like : (ws : List ℕ) (t : ℕ) (busy : Bool) (b : ℕ) → owed n ws l t busy b ≡ owed n ws m t busy b
  owed_like ws t busy b = rw (e b, e t)

  -- one tick of lefts that are alike
  moves_like : (o : Option ℕ) (t : ℕ) (busy : Bool) (l' m' : List ℕ) (x y : ℕ) (s u : Bool) → RingMoves o l t busy l' x s → RingMoves o m t busy m' y u →
      ((a : ℕ) → slice_index l' a ≡ slice_index m' a) × (x ≡ y) × (s ≡ u)
  moves_like (Some z) t busy l' m' x y s u f g =
      let here : slice_index_or l' z 0 ≡ slice_index_or m' z 0 = f.served ∙ ap (λ w. w - 1) (e z) ∙ sym g.served in (
        (λ a. elim (cases_eq a z) [
          | inl same ↦ ap (λ w. slice_index l' w) same ∙ here ∙ ap (λ w. slice_index m' w) (sym same)
          | inr other ↦ f.others a other ∙ e a ∙ sym (g.others a other)
        ]),
        f.turn ∙ sym g.turn,
        f.busy ∙ ap (ltb 0) here ∙ sym g.busy,
      )
  moves_like None t busy l' m' x y s u f g =
      ((λ a. ap (λ w. slice_index w a) f.lefts ∙ e a ∙ ap (λ w. slice_index w a) (sym g.lefts)), f.turn ∙ sym g.turn, f.same ∙ sym g.same)

pub ring_exact : Exact ring RingLike
ring_exact = record {
  same = λ p. record { rows = rows_same p.rows; turn = refl; busy = refl };
  number = λ p q e. e.rows.number;
  work = λ p q e a. ap (λ ws. slice_index ws a) e.rows.works;
  promise = λ p q e a. ap (λ n. cond (nat_lt a n) (total (works_of p.rows.list.items) n) 0) e.rows.number ∙ ap (λ ws. cond (nat_lt a (length q.rows.list.items)) (total ws (length q.rows.list.items)) 0) e.rows.works;
  left = λ p q e. e.rows.left;
  due = λ p q e a.
      let rs = p.rows.list.items in
      let ms = q.rows.list.items in
      owed_like (length rs) (lefts_of rs) (lefts_of ms) e.rows.left (works_of rs) p.turn p.busy a
      ∙ ap (λ n. owed n (works_of rs) (lefts_of ms) p.turn p.busy a) e.rows.number
      ∙ ap (λ ws. owed (length ms) ws (lefts_of ms) p.turn p.busy a) e.rows.works
      ∙ ap (λ t. owed (length ms) (works_of ms) (lefts_of ms) t p.busy a) e.turn
      ∙ ap (λ b. owed (length ms) (works_of ms) (lefts_of ms) q.turn b a) e.busy;
  ticks = λ p p' q q' e x y.
      let n = (length p.rows.list.items) in
      let l = (lefts_of p.rows.list.items) in
      let m = (lefts_of q.rows.list.items) in
      let chosen : next (length q.rows.list.items) m q.turn q.busy ≡ next n l p.turn p.busy =
      sym (next_like n l m e.rows.left p.turn p.busy ∙ ap (λ k. next k m p.turn p.busy) e.rows.number ∙ ap (λ t. next (length q.rows.list.items) m t p.busy) e.turn
      ∙ ap (λ b. next (length q.rows.list.items) m q.turn b) e.busy) in
      let there = subst (λ (b : Bool). RingMoves (next n l p.turn p.busy) m p.turn b (lefts_of q'.rows.list.items) q'.turn q'.busy) (sym e.busy)
      (subst (λ (t : ℕ). RingMoves (next n l p.turn p.busy) m t q.busy (lefts_of q'.rows.list.items) q'.turn q'.busy) (sym e.turn)
      (subst (λ (o : Option ℕ). RingMoves o m q.turn q.busy (lefts_of q'.rows.list.items) q'.turn q'.busy) chosen y.moves)) in
      let w = moves_like n l m e.rows.left (next n l p.turn p.busy) p.turn p.busy (lefts_of p'.rows.list.items) (lefts_of q'.rows.list.items) p'.turn q'.turn p'.busy q'.busy x.moves there in
      record {
        rows = record { number = x.number ∙ e.rows.number ∙ sym y.number; works = x.works ∙ e.rows.works ∙ sym y.works; left = w.0 };
        turn = w.1;
        busy = w.2;
      };
  lays = λ p p' q q' a e x y. record {
    rows = laid_like p.rows p'.rows q.rows q'.rows e.rows a x.0 y.0;
    turn = x.1 ∙ e.turn ∙ sym y.1;
    busy = x.2 ∙ e.busy ∙ sym y.2;
  };
  clears = λ p p' q q' e x y. record {
    rows = cleared_like p.rows p'.rows q.rows q'.rows e.rows x.0 y.0;
    turn = x.1 ∙ e.turn ∙ sym y.1;
    busy = x.2 ∙ sym y.2;
  };
}
