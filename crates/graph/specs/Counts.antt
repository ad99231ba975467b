-- Repetition counts: the least that balance every channel. Assumes nothing.
--
--   Balanced      p × n(source) = q × n(destination)
--   Solves        counts of 1 and more that balance every channel
--   Under         no count is above that of another table
--   at            a table of counts as a function, 0 past its end
--   Small, Least  none above 4096; none above that of any solution
--   CountsIs      the answer of the search for counts
--   Ones, LagsIs  what the search begins with, and how it goes on
use Rattle.std.specs.Prelude.{◌≡◌, ℕ, ◌*◌, ◌<◌, ◌≤◌, List, length, Some, None, Option, slice_index}
use Rattle.graph.specs.declared.channel.Channel.{Channel}
use Rattle.graph.specs.Channels.{Every, Ends}

abbrev pub Balanced : (ℕ → ℕ) → Channel → Type 0
Balanced n c = c.p * n c.source ≡ c.q * n c.dest

abbrev pub Solves : ℕ → List Channel → (ℕ → ℕ) → Type 0
Solves actors cs n = ((a : ℕ) → a < actors → 1 ≤ n a) × Every (Balanced n) cs

abbrev pub Under : (ℕ → ℕ) → (ℕ → ℕ) → Type 0
Under n m = (a : ℕ) → n a ≤ m a

abbrev pub at : List ℕ → ℕ → ℕ
at n a = slice_index n a

abbrev pub Small : List ℕ → Type 0
Small n = (a : ℕ) → at n a ≤ 4096

abbrev pub Least : ℕ → List Channel → List ℕ → Type 0
Least actors cs n = (m : ℕ → ℕ) → Solves actors cs m → Under (at n) m

-- the least counts; or none that balance are all of 1 to 4096
abbrev pub CountsIs : ℕ → List Channel → Option (List ℕ) → Type 0
CountsIs actors cs (Some n) = Solves actors cs (at n) × Small n × Least actors cs n × (length n ≡ 16)
CountsIs actors cs None = (m : ℕ → ℕ) → Solves actors cs m → ((a : ℕ) → a < actors → m a ≤ 4096) → ⊥

-- 1 for each actor, 0 past them
abbrev pub Ones : ℕ → List ℕ → Type 0
Ones actors n = (length n ≡ 16) × ((a : ℕ) → a < actors → at n a ≡ 1) × ((a : ℕ) → actors ≤ a → at n a ≡ 0)

-- an end of a channel whose count is above in every solution; or every channel is balanced
abbrev pub LagsIs : List Channel → List ℕ → Option ℕ → Type 0
LagsIs cs n (Some a) =
    (a < length n) × ((actors : ℕ) → Every (Ends actors) cs → a < actors)
    × ((m : ℕ → ℕ) → Every (Balanced m) cs → Under (at n) m → at n a < m a)
LagsIs cs n None = Every (Balanced (at n)) cs
