-- A list of items that is written is read, whatever the kind.
use Rattle.std.proofs.Common.{◌≡◌, ℕ, zero, suc, ◌+◌, ◌-◌, ◌<◌, ◌≤◌, List, [], ◌∷◌, ◌++◌, length, get_or, take, drop, set, replicate, Ok, Err, Result, sym, refl, ap, ◌∙◌, ⊎_elim, suc-add, zero-add, arith, length-append, length-set, drop-cons, take-suc}
use native.Mathlib.Nat.{sub-zero}
use Rattle.std.specs.List.{flat_map}
use Rattle.std.proofs.lemmas.Bool.{cases_eq}
use Rattle.std.proofs.lemmas.List.{take_at, drop_at, take_all, length-take-le, length-drop, length-replicate, take-replicate, drop_all, take-append-le, take_more_set, get_or_append_left, get_or_push, length_push, append_assoc, flat_map_more, drop-set-lt, drop-drop, drop-replicate}
use Rattle.graph.specs.declared.fault.Fault.{Fault}
use Rattle.graph.specs.Rules.{Each}
use Rattle.graph.specs.File.{many_of}
use Rattle.graph.specs.Answers.{Filled}

each_push : {X : Type 0} (d : X) (Good : List X → X → Type 0) (us : List X) (a : X) → Each d Good us → Good us a → Each d Good (us ++ a ∷ [])
each_push d Good us a r l k h =
    ⊎_elim
    (λ (e : k ≡ length us). rw (e, take_at us (a ∷ []) (length us) refl, get_or_push us a d (length us) refl) l)
    (λ (ne : k ≡ length us → ⊥).
    let b : k < length us = omega (arith, length_push us a) in
    let c : k ≤ length us = omega arith in
    rw (take-append-le, get_or_append_left) (r k b))
    (cases_eq k (length us))

module _ {X : Type 0} (d : X) (bytes : X → List ℕ) (Good : List X → X → Type 0) where
  -- one more item in the array
  pub filled_more : (unused : X) (long : ℕ) (xs : List ℕ) (list : List X) (rest later : List ℕ) (a : X) (i : ℕ) → i < long
      → Filled d unused long bytes Good xs list i rest → rest ≡ bytes a ++ later → Good (take i list) a
      → Filled d unused long bytes Good xs (set list i a) (i + 1) later
  filled_more unused long xs list rest later a i h f g l =
      let t = take_more_set list i a (omega (arith, f.size)) in
      record {
        size = simp length-set f.size;
        as_written = f.as_written
            ∙ rw (t, g)
            (sym (append_assoc (flat_map bytes (take i list)) (bytes a) later) ∙ ap (λ (l : List ℕ). l ++ later) (flat_map_more bytes [] (take i list) a));
        good = rw t (each_push d Good (take i list) a f.good l);
        unused_after = drop-set-lt (i + 1) list i a (omega arith)
            ∙ (sym (drop-drop 1 i list)
            ∙ (ap (drop 1) f.unused_after
            ∙ (drop-replicate 1 (long - i) unused ∙ ap (λ (n : ℕ). replicate n unused) (omega arith))));
      }

  -- the front of an array of unused places, of which none is filled
  pub filled_none : (unused : X) (long n : ℕ) (xs : List ℕ) → n ≤ long → Filled d unused n bytes Good xs (take n (replicate long unused)) 0 xs
  filled_none unused long n xs h = record {
    size = length-take-le n _ (omega (arith, length-replicate long unused));
    as_written = refl;
    good = λ k l. absurd (omega arith);
    unused_after = rw sub-zero (take-replicate n long unused h);
  }

  -- the array, once its front is filled
  pub filled_front : (unused : X) (long n i : ℕ) (xs : List ℕ) (list : List X) (rest : List ℕ) → n ≤ long → i ≡ n
      → Filled d unused n bytes Good xs list i rest → Filled d unused long bytes Good xs (list ++ drop n (replicate long unused)) n rest
  filled_front unused long n i xs list rest h e f =
      let all : take i list ≡ list = take_all i list (omega (arith, f.size)) in
      let front : take n (list ++ drop n (replicate long unused)) ≡ list = take_at list _ n f.size in
      record {
        size = simp (length-append, length-drop) (omega (arith, f.size, length-replicate long unused));
        as_written = rw front (rw all at f.as_written);
        good = rw front (rw all at f.good);
        unused_after = drop_at list _ n f.size ∙ drop-replicate n long unused;
      }

  module _ (one : ℕ → List X → List ℕ → Result (X × List ℕ) Fault)
      (reads : (n : ℕ) (us : List X) (a : X) (rest : List ℕ) → Good us a → one n us (bytes a ++ rest) ≡ Ok (a, rest)) where
    -- reading goes on from where it stands
    chain : (n : ℕ) (xs : List ℕ) (i : ℕ) (us : List X) (ys : List ℕ) (a : X) (zs : List ℕ)
        → many_of one n xs i ≡ Ok (us, ys) → one (n + i) us ys ≡ Ok (a, zs) → many_of one n xs (suc i) ≡ Ok (us ++ a ∷ [], zs)
    chain n xs i us ys a zs e f = rw (e, f) refl

    fails : (n : ℕ) (xs : List ℕ) (i : ℕ) (us : List X) (ys : List ℕ) (f : Fault)
        → many_of one n xs i ≡ Ok (us, ys) → one (n + i) us ys ≡ Err f → many_of one n xs (suc i) ≡ Err f
    fails n xs i us ys f e g = rw (e, g) refl

    -- a refusal stays
    refused : (n : ℕ) (xs : List ℕ) (f : Fault) (i j : ℕ) → many_of one n xs i ≡ Err f → many_of one n xs (j + i) ≡ Err f
    refused n xs f i zero e = rw zero-add e
    refused n xs f i (suc j) e = rw (suc-add, refused n xs f i j e) refl

    first : (n : ℕ) (us : List X) (rest : List ℕ) → Each d Good us → (i : ℕ) → i ≤ length us
        → many_of one n (flat_map bytes us ++ rest) i ≡ Ok (take i us, flat_map bytes (drop i us) ++ rest)
    first n us rest r zero h = refl
    first n us rest r (suc i) h =
        let a = get_or us i d in
        let e : flat_map bytes (drop i us) ++ rest ≡ bytes a ++ (flat_map bytes (drop (suc i) us) ++ rest) =
        rw (drop-cons us i d h) (append_assoc (bytes a) _ _) in
        let t : take i us ++ a ∷ [] ≡ take (suc i) us = sym (take-suc us i d h) in
        chain n _ i _ _ a _ (first n us rest r i (omega arith)) (ap (one (n + i) (take i us)) e ∙ reads (n + i) (take i us) a _ (r i h)) ∙ (cc)

    pub many_read : (n : ℕ) (us : List X) (rest : List ℕ) (i : ℕ) → Each d Good us → length us ≡ i
        → many_of one n (flat_map bytes us ++ rest) i ≡ Ok (us, rest)
    many_read n us rest i r e =
        first n us rest r i (omega arith) ∙ rw (take_all i us (omega arith), drop_all i us (omega arith)) refl

    -- where the items before are as written and the next is refused, so are all
    pub many_refused : (n : ℕ) (xs : List ℕ) (us : List X) (rest : List ℕ) (i m : ℕ) (f : Fault)
        → xs ≡ flat_map bytes us ++ rest → Each d Good us → length us ≡ i → i < m → one (n + i) us rest ≡ Err f
        → many_of one n xs m ≡ Err f
    many_refused n xs us rest i m f e r l h g =
        let z : (m - suc i) + suc i ≡ m = omega arith in
        let k = refused n xs f (suc i) (m - suc i) (fails n xs i us rest f (rw e (many_read n us rest i r l)) g) in
        rw z at k
