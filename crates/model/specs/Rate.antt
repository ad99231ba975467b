-- What rate answers, and of which ticks it keeps rows, as a value. Assumes nothing.
--
-- Answer       standstill f; f, d and m; no row for a sample; the last tick is done
-- Verdict      what one tick comes to: on to the next, on with a row taken, or an answer
-- Outcome      the answer, with the ticks of the rows taken, row 0 first
-- same         two states have the same tokens and ticks left
-- still        nothing is under way
-- sample_due   a sample is due at a tick
-- first_same   the first row that is the same as a tick, or the number of rows
-- sample_says  the verdict on a sample that is due
-- says         the verdict at a tick
-- led          where a verdict leads
-- rated        the outcome from a tick on, with so many more ticks to the last one
-- rate_of      the outcome from tick 0 on
use Rattle.std.specs.Prelude.{ℕ, zero, suc, ◌-◌, ◌%◌, Bool, true, cond, not, ◌&&◌, List, [], ◌∷◌, ◌++◌, length, ◌==◌, nat_eq, nat_lt, slice_index_or}
use Rattle.model.specs.Net.{Net, State, run, every, busy}

pub data Answer : Type 0 where
  standstill : ℕ → Answer
  repeats : ℕ → ℕ → ℕ → Answer
  no_row : Answer
  late : Answer

pub data Verdict : Type 0 where
  on : Verdict
  takes_row : Verdict
  answers : Answer → Verdict

pub record Outcome : Type 0 where
  pub answer : Answer
  pub taken : List ℕ

abbrev pub same : Net → State → State → Bool
same n s z = every n.channels (λ c. nat_eq (s.tokens c) (z.tokens c)) && every n.actors (λ a. nat_eq (s.left a) (z.left a))

abbrev pub still : Net → State → Bool
still n s = every n.actors (λ a. not (busy s a))

-- rep is the repetition count of actor 0
abbrev pub sample_due : Net → (ℕ → ℕ) → ℕ → ℕ → Bool
sample_due n time rep zero = true
sample_due n time rep (suc t) =
    nat_lt ((run n time t).ended 0) ((run n time (suc t)).ended 0) && (run n time (suc t)).ended 0 % rep == 0

abbrev pub first_same : Net → (ℕ → ℕ) → ℕ → List ℕ → ℕ
first_same n time t [] = 0
first_same n time t (f ∷ taken) = cond (same n (run n time f) (run n time t)) 0 (suc (first_same n time t taken))

abbrev pub sample_says : Net → (ℕ → ℕ) → ℕ → ℕ → List ℕ → Verdict
sample_says n time room t taken =
    let r = first_same n time t taken in
    let f = slice_index_or taken r 0 in
    cond (nat_lt r (length taken)) (answers (repeats f (t - f) (length taken - r))) (cond (nat_lt (length taken) room) takes_row (answers no_row))

unfoldable pub says : Net → (ℕ → ℕ) → ℕ → ℕ → ℕ → List ℕ → Verdict
says n time rep room t taken =
    cond (still n (run n time t)) (answers (standstill t)) (cond (sample_due n time rep t) (sample_says n time room t taken) on)

abbrev pub led : Verdict → ℕ → List ℕ → (List ℕ → Outcome) → Outcome
led on t taken go = go taken
led takes_row t taken go = go (taken ++ t ∷ [])
led (answers x) t taken go = record { answer = x; taken = taken }

unfoldable pub rated : Net → (ℕ → ℕ) → ℕ → ℕ → ℕ → ℕ → List ℕ → Outcome
rated n time rep room zero t taken = led (says n time rep room t taken) t taken (λ rows. record { answer = late; taken = rows })
rated n time rep room (suc more) t taken = led (says n time rep room t taken) t taken (λ rows. rated n time rep room more (suc t) rows)

unfoldable pub rate_of : Net → (ℕ → ℕ) → ℕ → ℕ → ℕ → Outcome
rate_of n time rep room last = rated n time rep room last 0 []
