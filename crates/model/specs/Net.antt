-- A graph as numbers, its states, and its run with a table of times, tick by tick. Assumes nothing.
--
-- Net            actors and channels, with rates, capacities and initial tokens
-- Sound          what every accepted graph keeps of them
-- Timed          each firing takes a tick or more
-- State          tokens and free places by channel, ticks left and firings ended by actor
-- when           a number where a test holds, and 0 where it does not
-- every          a test holds of each number below a bound
-- busy           the actor has a firing under way
-- started        how many firings the actor has started
-- lets           a channel does not hinder a start of the actor
-- ready          the actor can start
-- start          every ready actor starts once
-- ends           the actor's firing under way ends
-- finish         ticks left come to new ones, and firings that come to 0 end
-- tick           finish, and then start
-- initial_state  what stands before the starts of tick 0
-- fallen         ticks left, one less each
-- next           the tick of a run
-- run            the state after the starts of each tick
use Rattle.std.specs.Prelude.{ℕ, zero, suc, ◌+◌, ◌-◌, ◌<◌, ◌≤◌, Bool, true, false, cond, not, ◌&&◌, ◌||◌, ◌==◌, nat_le, nat_lt}

-- Actors and channels are numbered from 0. A firing of source c adds p c tokens to channel c, and one of dest c takes q c from it.
pub record Net : Type 0 where
  pub actors : ℕ
  pub channels : ℕ
  pub source : ℕ → ℕ
  pub dest : ℕ → ℕ
  pub p : ℕ → ℕ
  pub q : ℕ → ℕ
  pub capacity : ℕ → ℕ
  pub initial : ℕ → ℕ

pub record Sound (n : Net) : Type 0 where
  pub source_in : (c : ℕ) → c < n.channels → n.source c < n.actors
  pub dest_in : (c : ℕ) → c < n.channels → n.dest c < n.actors
  pub p_pos : (c : ℕ) → c < n.channels → 0 < n.p c
  pub q_pos : (c : ℕ) → c < n.channels → 0 < n.q c
  pub fits : (c : ℕ) → c < n.channels → n.initial c ≤ n.capacity c

abbrev pub Timed : Net → (ℕ → ℕ) → Type 0
Timed n time = (a : ℕ) → a < n.actors → 0 < time a

-- An idle actor has no ticks left.
pub record State : Type 0 where
  pub tokens : ℕ → ℕ
  pub free : ℕ → ℕ
  pub left : ℕ → ℕ
  pub ended : ℕ → ℕ

abbrev pub when : Bool → ℕ → ℕ
when true m = m
when false m = 0

abbrev pub every : ℕ → (ℕ → Bool) → Bool
every zero f = true
every (suc k) f = f k && every k f

abbrev pub busy : State → ℕ → Bool
busy s a = nat_lt 0 (s.left a)

abbrev pub started : State → ℕ → ℕ
started s a = s.ended a + when (busy s a) 1

abbrev pub lets : Net → State → ℕ → ℕ → Bool
lets n s a c = (not (n.dest c == a) || nat_le (n.q c) (s.tokens c)) && (not (n.source c == a) || nat_le (n.p c) (s.free c))

abbrev pub ready : Net → State → ℕ → Bool
ready n s a = not (busy s a) && every n.channels (lets n s a)

abbrev pub start : Net → (ℕ → ℕ) → State → State
start n time s = record {
  tokens = λ c. s.tokens c - when (ready n s (n.dest c)) (n.q c);
  free = λ c. s.free c - when (ready n s (n.source c)) (n.p c);
  left = λ a. cond (ready n s a) (time a) (s.left a);
  ended = s.ended;
}

abbrev pub ends : State → (ℕ → ℕ) → ℕ → Bool
ends s left a = busy s a && left a == 0

abbrev pub finish : Net → (ℕ → ℕ) → State → State
finish n left s = record {
  tokens = λ c. s.tokens c + when (ends s left (n.source c)) (n.p c);
  free = λ c. s.free c + when (ends s left (n.dest c)) (n.q c);
  left = left;
  ended = λ a. s.ended a + when (ends s left a) 1;
}

-- The new ticks left are an argument: a run counts them down, and whoever shares a processor says what they come to.
abbrev pub tick : Net → (ℕ → ℕ) → (ℕ → ℕ) → State → State
tick n time left s = start n time (finish n left s)

abbrev pub initial_state : Net → State
initial_state n = record { tokens = n.initial; free = λ c. n.capacity c - n.initial c; left = λ a. 0; ended = λ a. 0 }

abbrev pub fallen : State → ℕ → ℕ
fallen s a = s.left a - 1

abbrev pub next : Net → (ℕ → ℕ) → State → State
next n time s = tick n time (fallen s) s

abbrev pub run : Net → (ℕ → ℕ) → ℕ → State
run n time zero = start n time (initial_state n)
run n time (suc t) = next n time (run n time t)
