-- A test that holds of every number below a bound. Assumes nothing.
use Rattle.std.proofs.Common.{◌≡◌, ℕ, zero, suc, ◌+◌, ◌<◌, Bool, true, false, ◌&&◌, sym, refl, subst, ap₂, inl, inr, add-one, arith}
use Rattle.std.proofs.lemmas.Bool.{and_parts, and_cases, and_from, both_ways, cases_Bool, cases_eq, true≢false}
use Rattle.model.specs.Net.{every}

pub every_true : (k : ℕ) (f : ℕ → Bool) → every k f ≡ true → (c : ℕ) → c < k → f c ≡ true
every_true zero f h c lt = absurd (omega arith)
every_true (suc k) f h c lt =
    let (here, rest) = and_parts (f k) (every k f) h in
    elim (cases_eq c k) [ inl e ↦ subst (λ x. f x ≡ true) (sym e) here | inr e ↦ every_true k f rest c (omega arith) ]

pub every_false : (k : ℕ) (f : ℕ → Bool) → every k f ≡ false → (c : ℕ) × (c < k) × (f c ≡ false)
every_false zero f h = absurd (true≢false h)
every_false (suc k) f h = elim (and_cases (f k) (every k f) h) [ inl e ↦ (k, omega arith, e) | inr e ↦ let (c, lt, g) = every_false k f e in (c, omega arith, g) ]

pub every_from : (k : ℕ) (f : ℕ → Bool) → ((c : ℕ) → c < k → f c ≡ true) → every k f ≡ true
every_from zero f h = refl
every_from (suc k) f h = and_from (f k) (every k f) (h k (omega arith)) (every_from k f (λ c lt. h c (omega arith)))

pub every_more : (f : ℕ → Bool) (i : ℕ) → every i f ≡ true → f i ≡ true → every (i + 1) f ≡ true
every_more f i h k = rw add-one (and_from (f i) (every i f) k h)

pub every_stop : (f : ℕ → Bool) (k i : ℕ) → i < k → f i ≡ false → every k f ≡ false
every_stop f k i lt h = elim (cases_Bool (every k f)) [ inl e ↦ absurd (both_ways (f i) h (every_true k f e i lt)) | inr e ↦ e ]

pub every_same : (k : ℕ) (f g : ℕ → Bool) → ((c : ℕ) → c < k → f c ≡ g c) → every k f ≡ every k g
every_same zero f g h = refl
every_same (suc k) f g h = ap₂ ◌&&◌ (h k (omega arith)) (every_same k f g (λ c lt. h c (omega arith)))
