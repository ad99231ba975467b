-- What the calls of a table answer and leave. Assumes nothing.
use Rattle.std.specs.Prelude.{◌≡◌, ℕ, ◌+◌, ◌<◌, ◌≤◌, Bool, true, false, List, length, Some, None, Ok, Err, Option, Result, slice_index_or, slice_set}
use Rattle.std.specs.Borrow.{Bor}

-- a search for `x` among the first `n` of `xs`: the first that is alike, if there is one
abbrev pub FirstIs : {X : Type 0} → (X → X → Bool) → List X → ℕ → X → Option ℕ → Type 0
FirstIs alike xs n x None = (k : ℕ) → k < n → alike (slice_index_or xs k x) x ≡ false
FirstIs alike xs n x (Some i) =
    (i < n) × (alike (slice_index_or xs i x) x ≡ true) × ((k : ℕ) → k < i → alike (slice_index_or xs k x) x ≡ false)

-- the row `i` of the first `n` of `xs`
abbrev pub RowIs : {X : Type 0} → List X → ℕ → ℕ → Option (Bor X) → Type 0
RowIs xs n i None = n ≤ i
RowIs xs n i (Some x) = (i < n) × (x.now ≡ slice_index_or xs i x.now)

-- `x` added to a table of `n` taken rows of `xs`, which leaves `m` taken rows of `ys`: row `n` has it, or none is spare and all stays
abbrev pub AddedIs : {X : Type 0} → List X → ℕ → X → List X → ℕ → Result ℕ X → Type 0
AddedIs xs n x ys m (Ok i) = (n < length xs) × (i ≡ n) × (ys ≡ slice_set xs n x) × (m ≡ n + 1)
AddedIs xs n x ys m (Err y) = (length xs ≤ n) × (y ≡ x) × (ys ≡ xs) × (m ≡ n)

-- the stamps of the first `n` never fall from row to row
abbrev pub Rises : {X : Type 0} → (X → ℕ) → List X → ℕ → Type 0
Rises {X = X} stamped xs n = (i j : ℕ) (d : X) → i ≤ j → j < n → stamped (slice_index_or xs i d) ≤ stamped (slice_index_or xs j d)

-- and none of them is above `s`
abbrev pub Tops : {X : Type 0} → (X → ℕ) → List X → ℕ → ℕ → Type 0
Tops {X = X} stamped xs n s = (k : ℕ) (d : X) → k < n → stamped (slice_index_or xs k d) ≤ s
