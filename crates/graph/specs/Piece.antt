-- One piece: which actors the channels, taken without direction, join to actor 0. Assumes nothing.
--
--   Way              a way from actor 0 along channels
--   ApartIs          the answer of the search for an actor that no way leads to
--   Closed, Around   a set of actors that no channel leaves or enters; such a set that has actor 0
--   Joined           being in each of those
--   has, Marks       a table of marks as a set; one that has exactly the joined actors
--   BorderIs         the answer of the search for one more
--   UnmarkedIs       the answer of the search for an actor without a mark
use Rattle.std.specs.Prelude.{◌≡◌, ℕ, ◌<◌, Bool, true, false, List, length, get_or, Some, None, Option, slice_index_or}
use Rattle.graph.specs.declared.channel.Channel.{Channel}
use Rattle.graph.specs.Channels.{blank, Every}

-- a way from actor 0 along channels, taken without direction
pub data Way (cs : List Channel) : ℕ → Type 0 where
  start : Way cs 0
  along : (k : ℕ) → k < length cs → Way cs (get_or cs k blank).source → Way cs (get_or cs k blank).dest
  back : (k : ℕ) → k < length cs → Way cs (get_or cs k blank).dest → Way cs (get_or cs k blank).source

-- the lowest of the actors that channels do not join to actor 0, if there is one
abbrev pub ApartIs : ℕ → List Channel → Option ℕ → Type 0
ApartIs n cs (Some a) = (a < n) × (Way cs a → ⊥) × ((b : ℕ) → b < a → Way cs b)
ApartIs n cs None = (a : ℕ) → a < n → Way cs a

-- a set of actors that no channel leaves or enters; such a set that has actor 0
abbrev pub Closed : List Channel → (ℕ → Bool) → Type 0
Closed cs s = Every (λ c. s c.source ≡ s c.dest) cs

abbrev pub Around : List Channel → Type 0
Around cs = (s : ℕ → Bool) × (s 0 ≡ true) × Closed cs s

-- follows from a way (proofs/Ways)
abbrev pub Joined : List Channel → ℕ → Type 0
Joined cs a = (w : Around cs) → w.0 a ≡ true

abbrev pub has : List Bool → ℕ → Bool
has marks a = slice_index_or marks a false

-- a table that has exactly the actors joined to actor 0
pub record Marks (cs : List Channel) (marks : List Bool) : Type 0 where
  pub start : has marks 0 ≡ true
  pub closed : Closed cs (has marks)
  pub sound : (a : ℕ) → has marks a ≡ true → Way cs a

-- an actor outside, one step from the marked ones, or nothing to add
abbrev pub BorderIs : List Channel → List Bool → Option ℕ → Type 0
BorderIs cs marks (Some a) =
    (a < length marks) × (has marks a ≡ false) × (((b : ℕ) → has marks b ≡ true → Way cs b) → Way cs a)
BorderIs cs marks None = Closed cs (has marks)

abbrev pub UnmarkedIs : ℕ → List Bool → Option ℕ → Type 0
UnmarkedIs n marks (Some a) = (a < n) × (has marks a ≡ false) × ((b : ℕ) → b < a → has marks b ≡ true)
UnmarkedIs n marks None = (b : ℕ) → b < n → has marks b ≡ true
