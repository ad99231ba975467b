-- What the loops of a tick need, and what they have done of the channels or actors below i. Assumes nothing.
--
-- flag       a mark of a table of marks
-- Bounded    channels that the arrays have room for
-- Fitting    a sound graph that they have room for
-- Roomy      tokens and free places are 4,096 at most
-- Countable  each count can rise by one
-- Withheld   a channel's tokens and free places have struck out the actors at its ends that they hinder
-- Marked     the marks are those of the idle actors that no channel hinders
-- Takes      the marked actors find what they take
-- Taken      they have taken it
-- Begun      they have a firing under way
-- Served     firings under way have come to new ticks left, and those done are counted
-- Given      they have given tokens and places
use Rattle.std.specs.Prelude.{◌≡◌, ℕ, ◌+◌, ◌-◌, ◌^◌, ◌<◌, ◌≤◌, Bool, true, false, cond, not, ◌&&◌, ◌||◌, List, length, ◌==◌, nat_le, slice_index_or}
use Rattle.model.specs.Net.{State, Sound, when, busy, ends, every, lets}
use Rattle.graph.specs.declared.channel.Channel.{Channel}
use Rattle.graph.specs.Channels.{Every, Ends}
use Rattle.runs.specs.Nets.{channel_at, net_of, at, taken}

abbrev pub flag : List Bool → ℕ → Bool
flag bs a = slice_index_or bs a false

abbrev pub Bounded : List Channel → Type 0
Bounded cs = (length cs ≤ 32) × Every (Ends 16) cs

pub record Fitting (n : ℕ) (cs : List Channel) : Type 0 where
  pub few : (n ≤ 16) × (length cs ≤ 32)
  pub sound : Sound (net_of n cs)
  pub small : (c : ℕ) → c < length cs → (channel_at cs c).capacity ≤ 4096

abbrev pub Roomy : List Channel → State → Type 0
Roomy cs s = (c : ℕ) → c < length cs → (s.tokens c ≤ 4096) × (s.free c ≤ 4096)

abbrev pub Countable : ℕ → State → Type 0
Countable n s = (a : ℕ) → a < n → s.ended a + 1 < 2 ^ 32

abbrev pub Withheld : Channel → ℕ → ℕ → List Bool → List Bool → Type 0
Withheld c tokens free go go' =
    (length go' ≡ 16) × ((a : ℕ) → flag go' a ≡ (flag go a && ((not (c.dest == a) || nat_le c.q tokens) && (not (c.source == a) || nat_le c.p free))))

-- with the channels below i looked at
pub record Marked (i n : ℕ) (cs : List Channel) (s : State) (go : List Bool) : Type 0 where
  pub size : length go ≡ 16
  pub are : (a : ℕ) → a < n → flag go a ≡ (not (busy s a) && every i (lets (net_of n cs) s a))
  pub absent : (a : ℕ) → n ≤ a → flag go a ≡ false

pub record Takes (cs : List Channel) (go : List Bool) (s : State) : Type 0 where
  pub tokens : (c : ℕ) → c < length cs → flag go (channel_at cs c).dest ≡ true → (channel_at cs c).q ≤ s.tokens c
  pub places : (c : ℕ) → c < length cs → flag go (channel_at cs c).source ≡ true → (channel_at cs c).p ≤ s.free c

pub record Taken (i : ℕ) (cs : List Channel) (go : List Bool) (s z : State) : Type 0 where
  pub left : z.left ≡ s.left
  pub ended : z.ended ≡ s.ended
  pub tokens_are : (c : ℕ) → c < i → z.tokens c ≡ s.tokens c - when (flag go (channel_at cs c).dest) (channel_at cs c).q
  pub free_are : (c : ℕ) → c < i → z.free c ≡ s.free c - when (flag go (channel_at cs c).source) (channel_at cs c).p
  pub tokens_stay : (c : ℕ) → i ≤ c → z.tokens c ≡ s.tokens c
  pub free_stay : (c : ℕ) → i ≤ c → z.free c ≡ s.free c

pub record Begun (i : ℕ) (times : List ℕ) (go : List Bool) (s z : State) : Type 0 where
  pub tokens : z.tokens ≡ s.tokens
  pub free : z.free ≡ s.free
  pub left_are : (a : ℕ) → a < i → z.left a ≡ cond (flag go a) (at times a) (s.left a)
  pub left_stay : (a : ℕ) → i ≤ a → z.left a ≡ s.left a
  pub ended : (a : ℕ) → z.ended a ≡ s.ended a

pub record Served (i : ℕ) (left : List ℕ) (s z : State) (done : List Bool) : Type 0 where
  pub size : length done ≡ 16
  pub tokens : z.tokens ≡ s.tokens
  pub free : z.free ≡ s.free
  pub done_are : (a : ℕ) → a < i → flag done a ≡ ends s (taken s (at left)) a
  pub left_are : (a : ℕ) → a < i → z.left a ≡ taken s (at left) a
  pub left_stay : (a : ℕ) → i ≤ a → z.left a ≡ s.left a
  pub ended_are : (a : ℕ) → a < i → z.ended a ≡ s.ended a + when (ends s (taken s (at left)) a) 1
  pub ended_stay : (a : ℕ) → i ≤ a → z.ended a ≡ s.ended a

pub record Given (i : ℕ) (cs : List Channel) (done : List Bool) (s z : State) : Type 0 where
  pub left : z.left ≡ s.left
  pub ended : z.ended ≡ s.ended
  pub tokens_are : (c : ℕ) → c < i → z.tokens c ≡ s.tokens c + when (flag done (channel_at cs c).source) (channel_at cs c).p
  pub free_are : (c : ℕ) → c < i → z.free c ≡ s.free c + when (flag done (channel_at cs c).dest) (channel_at cs c).q
  pub tokens_stay : (c : ℕ) → i ≤ c → z.tokens c ≡ s.tokens c
  pub free_stay : (c : ℕ) → i ≤ c → z.free c ≡ s.free c
