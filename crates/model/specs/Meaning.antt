-- What rate's answers mean of the whole run, for ever. Assumes nothing.
--
-- Joined     channels, taken without direction, lead from actor 0 to the actor, by some way
-- Balances   so many firings of each actor leave every channel's tokens as they were
-- Accepted   a graph in one piece, with times and repetition counts
-- Repeats    from tick f on, any d ticks see m times the repetition counts, and so for ever
-- Stands     from tick f on nothing is under way, and nothing starts or ends
-- Ceases     from some tick on no count rises
-- RateMeans  what each answer says of the run, and each row taken
-- RateHolds  rate's outcome means that, of every accepted graph
use Rattle.std.specs.Prelude.{◌≡◌, ℕ, ◌+◌, ◌*◌, ◌<◌, ◌≤◌, length, ◌≢◌, slice_index}
use Rattle.model.specs.Net.{Net, Sound, Timed, run}
use Rattle.model.specs.Rate.{Outcome, standstill, repeats, no_row, rate_of}

pub data Joined (n : Net) : ℕ → Type 0 where
  first : Joined n 0
  along : (c : ℕ) → c < n.channels → Joined n (n.source c) → Joined n (n.dest c)
  back : (c : ℕ) → c < n.channels → Joined n (n.dest c) → Joined n (n.source c)

abbrev pub Balances : Net → (ℕ → ℕ) → Type 0
Balances n x = (c : ℕ) → c < n.channels → n.p c * x (n.source c) ≡ n.q c * x (n.dest c)

pub record Accepted (n : Net) (time reps : ℕ → ℕ) : Type 0 where
  pub sound : Sound n
  pub timed : Timed n time
  pub some : 0 < n.actors
  pub joined : (a : ℕ) → a < n.actors → ∥ Joined n a ∥₁
  pub balances : Balances n reps
  pub counted : 0 < reps 0

pub record Repeats (n : Net) (time reps : ℕ → ℕ) (f d m : ℕ) : Type 0 where
  pub later : 0 < d
  pub some : 0 < m
  pub steady : (t a : ℕ) → f ≤ t → a < n.actors → (run n time (t + d)).ended a ≡ (run n time t).ended a + m * reps a
  pub endless : (a k : ℕ) → a < n.actors → 0 < reps a → (t : ℕ) × (k ≤ (run n time t).ended a)

abbrev pub Stands : Net → (ℕ → ℕ) → ℕ → Type 0
Stands n time f = (t a : ℕ) → f ≤ t → a < n.actors → ((run n time t).left a ≡ 0) × ((run n time t).ended a ≡ (run n time f).ended a)

abbrev pub Ceases : Net → (ℕ → ℕ) → Type 0
Ceases n time = (f : ℕ) × ((t a : ℕ) → f ≤ t → a < n.actors → (run n time t).ended a ≡ (run n time f).ended a)

pub record RateMeans (n : Net) (time reps : ℕ → ℕ) (room : ℕ) (o : Outcome) : Type 0 where
  pub repeating : (f d m : ℕ) → o.answer ≡ repeats f d m → Repeats n time reps f d m
  pub standing : (f : ℕ) → o.answer ≡ standstill f → Stands n time f
  pub ceasing : Ceases n time → (f d m : ℕ) → o.answer ≢ repeats f d m
  pub full : o.answer ≡ no_row → length o.taken ≡ room
  pub within : length o.taken ≤ room
  pub sampled : (i : ℕ) → i < length o.taken → (run n time (slice_index o.taken i)).ended 0 ≡ i * reps 0

abbrev pub RateHolds : Type 0
RateHolds = (n : Net) (time reps : ℕ → ℕ) → Accepted n time reps → (room last : ℕ) → RateMeans n time reps room (rate_of n time (reps 0) room last)
