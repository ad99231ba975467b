-- A name repeated among those in a table.
use Rattle.std.proofs.Common.{◌≡◌, ℕ, zero, suc, ◌+◌, ◌<◌, ◌≤◌, true, false, List, [], ◌∷◌, length, get_or, take, set, Some, None, Option, Ok, Err, Result, sym, refl, ap, ◌∙◌, arith, length-set}
use Rattle.std.specs.Str.{bytes_eq}
use Rattle.std.proofs.lemmas.List.{get_or-map, get_or-take, length-map, length-take-le, take_more_set, map_push}
use Rattle.std.specs.Option.{is_some}
use Rattle.table.specs.Find.{FirstIs, AddedIs, Tops}
use Rattle.graph.specs.declared.actor.Actor.{Actor}
use Rattle.graph.specs.declared.actor.NameRow.{NameRow}
use Rattle.graph.specs.Rules.{names, repeated}
use Rattle.graph.specs.Answers.{kept}
use Rattle.graph.proofs.Sets.{after_set}

found : (ns : List (List ℕ)) (name : List ℕ) (i : ℕ) → i < length ns → bytes_eq (get_or ns i []) name ≡ true → repeated ns name ≡ true
found [] name i h e = absurd (omega arith)
found (n ∷ ns) name zero h e = rw e refl
found (n ∷ ns) name (suc i) h e = rw (found ns name i (omega arith) e) (grind arith)

absent : (ns : List (List ℕ)) (name : List ℕ) → ((k : ℕ) → k < length ns → bytes_eq (get_or ns k []) name ≡ false) → repeated ns name ≡ false
absent [] name f = refl
absent (n ∷ ns) name f = rw (f 0 (omega arith), absent ns name (λ k h. f (suc k) (omega arith))) refl

module _ (rows : List NameRow) (used : ℕ) (x : NameRow) (h : used ≤ length rows) where
  many : length (kept rows used) ≡ used
  many = length-map (take used rows) (λ (r : NameRow). r.name) ∙ length-take-le used rows h

  row : (k : ℕ) → k < used → get_or (kept rows used) k [] ≡ (get_or rows k x).name
  row k l =
      get_or-map (λ (r : NameRow). r.name) (take used rows) k x [] (omega (arith, length-take-le used rows h))
      ∙ ap (λ (r : NameRow). r.name) (get_or-take used rows k x l)

  -- a search for the name tells whether it is repeated
  pub search_tells : (o : Option ℕ) → FirstIs (λ a b. bytes_eq a.name b.name) rows used x o → is_some o ≡ repeated (kept rows used) x.name
  search_tells (Some i) h = sym (found (kept rows used) x.name i (omega (arith, many, h.0)) (rw (row i h.0) h.1))
  search_tells None h = sym (absent (kept rows used) x.name (λ k l. let u : k < used = omega (arith, many) in rw (row k u) (h k u)))

-- what adding to a table with room leaves
pub added : (xs : List NameRow) (n : ℕ) (x : NameRow) (ys : List NameRow) (m : ℕ) (o : Result ℕ NameRow) → n < length xs → AddedIs xs n x ys m o
    → (ys ≡ set xs n x) × (m ≡ n + 1)
added xs n x ys m (Ok i) h a = (a.2, a.3)
added xs n x ys m (Err u) h a = absurd (omega (arith, a.0))

-- a row added, as an actor is
pub kept_more : (rows ys : List NameRow) (out : List Actor) (used m i : ℕ) (r : NameRow) (a : Actor) → (ys ≡ set rows used r) × (m ≡ used + 1)
    → used ≡ i → i < length rows → i < length out → r.name ≡ a.name → kept rows used ≡ names (take i out)
    → (length ys ≡ length rows) × (m ≡ i + 1) × (kept ys m ≡ names (take (i + 1) (set out i a)))
kept_more rows ys out used m i r a d e h l n k = (
  ap length d.0 ∙ simp length-set,
  omega arith,
  rw (d.0, d.1, take_more_set rows used r (omega arith), take_more_set out i a l)
      (map_push (λ (r : NameRow). r.name) (take used rows) r ∙ (rw (k, n) (sym (map_push (λ (a : Actor). a.name) (take i out) a)))),
)

-- stamps up to `i`, and one more of `i + 1`, are stamps up to `i + 1`
pub tops_more : (xs ys : List NameRow) (n m i : ℕ) (x : NameRow) → (ys ≡ set xs n x) × (m ≡ n + 1) → n < length xs → x.field ≡ i + 1
    → Tops {X = NameRow} (λ r. r.field) xs n i → Tops {X = NameRow} (λ r. r.field) ys m (i + 1)
tops_more xs ys n m i x d h e t k z l =
    rw d.0
    (after_set (λ k r. k < n + 1 → r.field ≤ i + 1) xs n x z h (λ _. omega arith) (λ k ne l. let b = t k z (omega arith) in omega arith) k (omega arith))
