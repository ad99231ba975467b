-- The rows that rate leaves. Assumes nothing.
--
-- same_row  the same tokens and ticks left
-- Rising    the ticks of the first rows never fall from row to row
-- Upto      and none of them is after a tick
-- listed    a table's first numbers, then zeros, as a list of some size
-- row_of    the row of a net's state at a tick
-- row_at    the row of a run at a tick
-- leaves    the rows of the ticks taken, then the rows that stay
use Rattle.std.specs.Prelude.{ℕ, Bool, ◌&&◌, List, ◌++◌, map, length, drop, nat_lt}
use Rattle.std.specs.List.{range_with_len}
use Rattle.std.specs.Str.{bytes_eq}
use Rattle.table.specs.Find.{Rises, Tops}
use Rattle.model.specs.Net.{Net, State, when, run}
use Rattle.rates.specs.declared.sample.Sample.{Sample}

abbrev pub same_row : Sample → Sample → Bool
same_row a b = bytes_eq a.tokens b.tokens && bytes_eq a.left b.left

abbrev pub Rising : List Sample → ℕ → Type 0
Rising rows n = Rises {X = Sample} (λ r. r.tick) rows n

abbrev pub Upto : ℕ → List Sample → ℕ → Type 0
Upto t rows n = Tops {X = Sample} (λ r. r.tick) rows n t

unfoldable pub listed : ℕ → ℕ → (ℕ → ℕ) → List ℕ
listed size k f = map (λ i. when (nat_lt i k) (f i)) (range_with_len 0 size)

abbrev pub row_of : Net → State → ℕ → Sample
row_of n s t = record { tokens = listed 32 n.channels s.tokens; left = listed 16 n.actors s.left; tick = t }

abbrev pub row_at : Net → (ℕ → ℕ) → ℕ → Sample
row_at n time t = row_of n (run n time t) t

abbrev pub leaves : Net → (ℕ → ℕ) → List ℕ → List Sample → List Sample
leaves n time taken rows = map (row_at n time) taken ++ drop (length taken) rows
