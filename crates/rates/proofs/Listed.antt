-- Lists made of a table's first numbers and zeros. Assumes nothing.
use Rattle.std.proofs.Common.{◌≡◌, ℕ, zero, suc, ◌+◌, ◌<◌, ◌≤◌, ltb, List, length, sym, ap, subst, ◌∙◌, inl, inr, add-zero, zero-add, arith}
use Rattle.std.specs.Array.{IsFromFnResult, IsFromFnResultFrom}
use denote.Param.Members.{Mut, Called}
use Rattle.std.proofs.lemmas.List.FromFn.{fill_by_all, length-map-range_with_len, get_or-map-range_with_len}
use Rattle.std.proofs.lemmas.List.{ext_get_or}
use Rattle.std.proofs.lemmas.Bool.{cases_lt, lt-ltb, le-ltb}
use Rattle.model.specs.Net.{when}
use Rattle.runs.specs.Seen.{at}
use Rattle.rates.specs.Rows.{listed}

module _ (size k : ℕ) where
  pub length-listed : (f : ℕ → ℕ) → length (listed size k f) ≡ size
  unfolding listed
  length-listed f = length-map-range_with_len (λ i. when (ltb i k) (f i)) 0 size

  pub at_listed : (f : ℕ → ℕ) (i : ℕ) → i < size → at (listed size k f) i ≡ when (ltb i k) (f i)
  unfolding listed
  at_listed f i lt = get_or-map-range_with_len (λ i. when (ltb i k) (f i)) 0 size i i 0 lt (omega arith)

  pub is_listed : (f : ℕ → ℕ) (xs : List ℕ) → length xs ≡ size → ((i : ℕ) → i < size → at xs i ≡ f i) → ((i : ℕ) → k ≤ i → f i ≡ 0) → xs ≡ listed size k f
  unfolding listed
  is_listed f xs e h past = fill_by_all (λ i. when (ltb i k) (f i)) xs size 0 e (λ i lt. h i lt ∙ shown i)
    where
      shown : (i : ℕ) → f i ≡ when (ltb i k) (f i)
      shown i = elim (cases_lt i k) [ inl lt ↦ ap (λ b. when b (f i)) (sym (lt-ltb i k lt)) | inr ge ↦ past i ge ∙ ap (λ b. when b (f i)) (sym (le-ltb i k ge)) ]

  pub listed_same : (f g : ℕ → ℕ) → ((i : ℕ) → i < k → f i ≡ g i) → listed size k f ≡ listed size k g
  listed_same f g h = ext_get_or 0 _ _ (length-listed f ∙ sym (length-listed g)) (λ i lt.
      let lt' : i < size = omega (arith, length-listed f) in at_listed f i lt' ∙ (shown i ∙ sym (at_listed g i lt')))
    where
      shown : (i : ℕ) → when (ltb i k) (f i) ≡ when (ltb i k) (g i)
      shown i = elim (cases_lt i k) [ inl lt ↦ ap (λ x. when (ltb i k) x) (h i lt) | inr ge ↦ let off = le-ltb i k ge in ap (λ b. when b (f i)) off ∙ sym (ap (λ b. when b (g i)) off) ]

-- what a function of the index gave, where it is the same at each call
module _ {F : Type 0} (g : Mut F (ℕ × Unit {0}) ℕ) (f : F) (h : ℕ → ℕ) (gives : (i y : ℕ) (q : F) → Called g f (i, tt) y q → (y ≡ h i) × (q ≡ f)) where
  from : (ys : List ℕ) (n i : ℕ) → IsFromFnResultFrom g f ys i n → (k : ℕ) → k < n → at ys (i + k) ≡ h (i + k)
  from ys zero i r k lt = absurd (omega arith)
  from ys (suc n) i (q, y, is, call, rest) zero lt = rw add-zero (is.1 0 ∙ (gives i y q call).0)
  from ys (suc n) i (q, y, is, call, rest) (suc k) lt =
      let on : i + 1 + k ≡ i + suc k = omega arith in
      let more = subst (λ (p : F). IsFromFnResultFrom g p ys (i + 1) n) (gives i y q call).1 rest in
      rw (← on) (from ys n (i + 1) more k (omega arith))

  pub made : (ys : List ℕ) (n : ℕ) → IsFromFnResult g f ys n → (i : ℕ) → i < n → at ys i ≡ h i
  made ys n r i lt = rw zero-add at (from ys n 0 r.each i lt)
