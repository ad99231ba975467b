-- The walk along an actor's moves. Assumes nothing.
use Rattle.std.proofs.Common.{◌≡◌, ◌≢◌, ℕ, ◌+◌, ◌<◌, ◌≤◌, List, length, take, set, get_or, refl, sym, ap, ◌∙◌, inl, inr, arith, length-set, get_or-set_other, get_or-set_same}
use Rattle.std.specs.List.{sum_by}
use Rattle.std.proofs.lemmas.Bool.{cases_eq, eq-eqb, ne_eqb}
use Rattle.std.proofs.lemmas.List.{take_all}
use Rattle.std.proofs.lemmas.List.Sums.{sum_by_more, sum_by_more_le}
use Rattle.runs.specs.Seen.{at}
use Rattle.leaps.specs.declared.list.Move.{Move}
use Rattle.leaps.specs.declared.moves.Moves.{Moves}
use Rattle.leaps.specs.Stores.{rate_of, moved, list_at}
use Rattle.leaps.specs.Moves.{IsWalk, Moved}
use Rattle.leaps.proofs.Listed.{moves_within, moves_sum}

pub is_walk : (m : Moves) (a : ℕ) (ms : List Move) → length m.stores ≡ 64 → ms ≡ list_at m.lists a → IsWalk m a ms
is_walk m a ms size is = rw (is, m.listed a) (record {
  moves = refl;
  within = moves_within m.stores a 64 (length m.stores) (omega (arith, size));
  rates = λ e lt. moves_sum m.stores a e (length m.stores) (omega (arith, size));
})

-- the first i of the moves are made
pub record Walked (f : ℕ → ℕ → ℕ) (ms : List Move) (i : ℕ) (xs ys : List ℕ) : Type 0 where
  pub size : length ys ≡ 64
  pub are : (e : ℕ) → e < 64 → at ys e ≡ f (at xs e) (sum_by (moved e) (take i ms))

module _ (ms : List Move) (i : ℕ) (d : Move) (lt : i < length ms) where
  abbrev m : Move
  m = get_or ms i d

  moved_here : moved m.store m ≡ m.rate
  moved_here = rw (eq-eqb m.store m.store refl)

  moved_elsewhere : (e : ℕ) → m.store ≢ e → moved e m ≡ 0
  moved_elsewhere e ne = rw (ne_eqb m.store e ne)

  more : (e : ℕ) → sum_by (moved e) (take (i + 1) ms) ≡ sum_by (moved e) (take i ms) + moved e m
  more e = sum_by_more (moved e) ms i d lt

  -- what was moved at its store, and its rate, are within the actor's rate there
  pub walked_le : (w : Moves) (a : ℕ) → IsWalk w a ms → sum_by (moved m.store) (take i ms) + m.rate ≤ rate_of w.stores a m.store
  walked_le w a h = omega (arith, moved_here, sum_by_more_le (moved m.store) ms i d lt, h.rates m.store (h.within i d lt))

  pub walked_more : (f : ℕ → ℕ → ℕ) (xs ys : List ℕ) → ((x s r : ℕ) → f (f x s) r ≡ f x (s + r)) → m.store < 64 → Walked f ms i xs ys → Walked f ms (i + 1) xs (set ys m.store (f (at ys m.store) m.rate))
  walked_more f xs ys twice within w = record {
    size = simp length-set w.size;
    are = λ e he. rw (more e) (elim (cases_eq m.store e) [
      | inl is ↦ rw (← is) (get_or-set_same ys m.store _ 0 (omega (arith, w.size)) ∙ ap (λ y. f y m.rate) (w.are m.store within) ∙ twice _ _ _ ∙ ap (λ r. f (at xs m.store) (sum_by (moved m.store) (take i ms) + r)) (sym moved_here))
      | inr ne ↦ get_or-set_other ys m.store e _ 0 (λ x. ne (sym x)) ∙ w.are e he ∙ ap (f (at xs e)) (omega (arith, moved_elsewhere e ne))
    ]);
  }

pub walked_all : (f : ℕ → ℕ → ℕ) (m : Moves) (a : ℕ) (ms : List Move) (i : ℕ) (xs ys : List ℕ) → length ms ≤ i → IsWalk m a ms → Walked f ms i xs ys → Moved f m a xs ys
walked_all f m a ms i xs ys le h w = record { size = w.size; are = λ e lt. w.are e lt ∙ ap (f (at xs e)) (ap (sum_by (moved e)) (take_all i ms le) ∙ h.rates e lt) }
