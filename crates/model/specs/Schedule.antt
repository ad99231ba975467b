-- Schedules, which of them a graph allows, and that none of these is faster than the run. Assumes nothing.
use Rattle.std.specs.Prelude.{◌≡◌, ℕ, zero, suc, ◌+◌, ◌-◌, ◌*◌, ◌<◌, ◌≤◌, Bool, true}
use Rattle.model.specs.Net.{Net, Sound, Timed, run}

-- The firings of an actor a are numbered from 0, finitely or endlessly: has a k says that there is one with number k.
pub record Schedule : Type 0 where
  pub has : ℕ → ℕ → Bool
  pub start : ℕ → ℕ → ℕ
  pub end : ℕ → ℕ → ℕ

-- m firings of a, or more, have ended by tick t: none is asked for, or the m-th is there and has ended
abbrev pub Ended : Schedule → ℕ → ℕ → ℕ → Type 0
Ended s a t zero = Unit {0}
Ended s a t (suc k) = (s.has a k ≡ true) × (s.end a k ≤ t)

-- A firing's tokens and places are there by the firings that have ended by its start.
pub record Allowed (n : Net) (time : ℕ → ℕ) (s : Schedule) : Type 0 where
  pub listed : (a k : ℕ) → a < n.actors → s.has a (suc k) ≡ true → s.has a k ≡ true
  pub long : (a k : ℕ) → a < n.actors → s.has a k ≡ true → s.start a k + time a ≤ s.end a k
  pub apart : (a k : ℕ) → a < n.actors → s.has a (suc k) ≡ true → s.end a k ≤ s.start a (suc k)
  pub tokens : (c k : ℕ) → c < n.channels → s.has (n.dest c) k ≡ true →
      (m : ℕ) × Ended s (n.source c) (s.start (n.dest c) k) m × (n.q c * (k + 1) ≤ n.initial c + n.p c * m)
  pub places : (c k : ℕ) → c < n.channels → s.has (n.source c) k ≡ true →
      (m : ℕ) × Ended s (n.dest c) (s.start (n.source c) k) m × (n.p c * (k + 1) ≤ n.capacity c - n.initial c + n.q c * m)

-- Firings end in their order, so that m have ended by t where the m-th has; and there are never more than t of them.
pub record InOrder : Type 0 where
  pub all : (n : Net) (time : ℕ → ℕ) (s : Schedule) → Allowed n time s → (a t m : ℕ) → a < n.actors → Ended s a t m →
      (k : ℕ) → k < m → (s.has a k ≡ true) × (s.end a k ≤ t)
  pub most : (n : Net) (time : ℕ → ℕ) (s : Schedule) → Timed n time → Allowed n time s → (a t m : ℕ) → a < n.actors → Ended s a t m → m ≤ t

-- By the tick at which firing k of an allowed schedule ends, the run has ended its firing k too.
abbrev pub NoFaster : Type 0
NoFaster = (n : Net) (time : ℕ → ℕ) (s : Schedule) → Sound n → Timed n time → Allowed n time s →
    (a k : ℕ) → a < n.actors → s.has a k ≡ true → k + 1 ≤ (run n time (s.end a k)).ended a
