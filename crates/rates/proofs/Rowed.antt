-- Rows that hold the samples of a run. Assumes nothing.
use Rattle.std.proofs.Common.{◌≡◌, ℕ, ◌+◌, ◌<◌, ◌≤◌, ◌&&◌, eqb, List, [], ◌∷◌, ◌++◌, map, length, get_or, drop, set, sym, ap, ◌∙◌, ap₂, inl, inr, arith, get_or-set_other, get_or-set_same}
use Rattle.std.specs.Str.{bytes_eq}
use Rattle.std.proofs.lemmas.Slice.Eq.{bytes_eq-Decides}
use Rattle.std.proofs.lemmas.List.{length-map, length_push, length-append, length-drop, get_or_append_left, get_or-map, map_push, append_assoc, drop_more, set_at}
use Rattle.std.proofs.lemmas.Bool.{cases_eq, eqb-true, eq-eqb, lt-ltb}
use Rattle.std.proofs.lemmas.Bool.Decides.{same_from_decides}
use Rattle.model.specs.Net.{Net, State, when, every, run}
use Rattle.model.specs.Likeness.{Matches}
use Rattle.model.specs.Rate.{same}
use Rattle.model.proofs.Every.{every_true, every_from}
use Rattle.runs.specs.Seen.{at}
use Rattle.rates.specs.declared.sample.Sample.{Sample}
use Rattle.rates.specs.Rows.{listed, same_row, Upto, row_of, row_at, leaves}
use Rattle.rates.proofs.Listed.{at_listed, listed_same}

-- two lists of first numbers are the same where these are
module _ (size k : ℕ) (f g : ℕ → ℕ) (fits : k ≤ size) where
  agrees : listed size k f ≡ listed size k g → (i : ℕ) → i < k → f i ≡ g i
  agrees e i lt =
      let on = lt-ltb i k lt in
      let a : at (listed size k f) i ≡ f i = at_listed size k f i (omega arith) ∙ ap (λ b. when b (f i)) on in
      let b : at (listed size k g) i ≡ g i = at_listed size k g i (omega arith) ∙ ap (λ b. when b (g i)) on in
      sym a ∙ (ap (λ xs. at xs i) e ∙ b)

  pub same_listed : bytes_eq (listed size k f) (listed size k g) ≡ every k (λ i. eqb (f i) (g i))
  same_listed = same_from_decides _ _ (bytes_eq-Decides (listed size k f) (listed size k g)) (
    (λ h. listed_same size k f g (λ i lt. eqb-true _ _ (every_true k (λ i. eqb (f i) (g i)) h i lt))),
    (λ e. every_from k (λ i. eqb (f i) (g i)) (λ i lt. eq-eqb _ _ (agrees e i lt))),
  )

module _ (n : Net) (time : ℕ → ℕ) (few : (n.actors ≤ 16) × (n.channels ≤ 32)) where
  pub same_row_lem : (s z : State) (t u : ℕ) → same_row (row_of n s t) (row_of n z u) ≡ same n s z
  same_row_lem s z t u = ap₂ ◌&&◌ (same_listed 32 n.channels s.tokens z.tokens few.1) (same_listed 16 n.actors s.left z.left few.0)

  -- a state that matches the run has its row
  pub row_is : (s : State) (t : ℕ) → Matches n s (run n time t) → row_of n s t ≡ row_at n time t
  row_is s t h = ap₂ (λ x y. record { tokens = x; left = y; tick = t })
      (listed_same 32 n.channels _ _ h.alike.tokens) (listed_same 16 n.actors _ _ h.alike.left)

module _ (n : Net) (time : ℕ → ℕ) (taken : List ℕ) (rows : List Sample) where
  taken_long : length (map (row_at n time) taken) ≡ length taken
  taken_long = length-map taken (row_at n time)

  pub length-leaves : length taken ≤ length rows → length (leaves n time taken rows) ≡ length rows
  length-leaves h = omega (arith, length-append (map (row_at n time) taken) (drop (length taken) rows), taken_long, length-drop (length taken) rows)

  pub taken_row : (k : ℕ) (d : Sample) → k < length taken → get_or (leaves n time taken rows) k d ≡ row_at n time (get_or taken k 0)
  taken_row k d lt = get_or_append_left _ _ d k (omega (arith, taken_long)) ∙ get_or-map (row_at n time) taken k 0 d lt

  -- one more row taken
  pub leaves_more : (t : ℕ) → length taken < length rows → set (leaves n time taken rows) (length taken) (row_at n time t) ≡ leaves n time (taken ++ t ∷ []) rows
  leaves_more t lt =
      let x = row_at n time t in
      ap (λ r. set (map (row_at n time) taken ++ r) (length taken) x) (drop_more rows (length taken) x lt)
      ∙ (set_at (map (row_at n time) taken) _ _ x (length taken) taken_long
      ∙ (sym (append_assoc (map (row_at n time) taken) (x ∷ []) _) ∙ ap₂ (λ a k. a ++ drop k rows) (sym (map_push (row_at n time) taken t)) (sym (length_push taken t))))

-- stamps up to t, and one more of t, are stamps up to t
pub tops_more : (xs : List Sample) (n t : ℕ) (x : Sample) → n < length xs → x.tick ≡ t → Upto t xs n →
    Upto t (set xs n x) (n + 1)
tops_more xs n t x lt e h k d below = elim (cases_eq k n) [
  | inl is ↦ rw (is, get_or-set_same xs n x d lt) (omega arith)
  | inr ne ↦ rw (get_or-set_other xs n k x d ne) (h k d (omega arith))
]
