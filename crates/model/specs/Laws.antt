-- The law over behaviours, and the pace of a run that a policy shares. Assumes nothing.
--
-- Fed        tokens and places allowed what has started, by what has ended
-- Blocked    some channel withholds one more firing of the actor
-- Balanced   tokens and free places are what the firings started and ended make of them
-- Behaviour  how many firings of each actor have started and ended by each tick
-- counts     the behaviour of states by tick
-- Legal      it keeps to tokens and places, one firing of an actor at a time, each so long or longer
-- Eager      it starts whenever it can, and each firing takes so long or less
-- Law        no legal behaviour is ahead of an eager one
-- RunFits    the run of a graph is both legal and eager
-- Ahead      one state has started more, or as much and has no more ticks to go
-- Paced      a shared run at a tick: not ahead of the unhindered run, nor behind the promised one
-- Due        what a policy keeps of the ticks due
-- Serves     what a policy's serve does to ticks left and due
-- Pace       the pace is kept by each tick, and keeps the counts between those of the two runs
use Rattle.std.specs.Prelude.{◌≡◌, ℕ, suc, ◌+◌, ◌-◌, ◌*◌, ◌<◌, ◌≤◌, ◌⊎◌}
use Rattle.model.specs.Net.{Net, Sound, Timed, State, initial_state, start, tick, run, started}

pub record Fed (n : Net) (started ended : ℕ → ℕ) : Type 0 where
  pub tokens : (c : ℕ) → c < n.channels → n.q c * started (n.dest c) ≤ n.initial c + n.p c * ended (n.source c)
  pub places : (c : ℕ) → c < n.channels → n.p c * started (n.source c) ≤ n.capacity c - n.initial c + n.q c * ended (n.dest c)

abbrev pub Blocked : Net → (ℕ → ℕ) → (ℕ → ℕ) → ℕ → Type 0
Blocked n started ended a =
    (c : ℕ) × (c < n.channels) ×
    (((n.dest c ≡ a) × (n.initial c + n.p c * ended (n.source c) < n.q c * (started (n.dest c) + 1)))
    ⊎ ((n.source c ≡ a) × (n.capacity c - n.initial c + n.q c * ended (n.dest c) < n.p c * (started (n.source c) + 1))))

pub record Balanced (n : Net) (s : State) : Type 0 where
  pub tokens : (c : ℕ) → c < n.channels → s.tokens c + n.q c * started s (n.dest c) ≡ n.initial c + n.p c * s.ended (n.source c)
  pub free : (c : ℕ) → c < n.channels → s.free c + n.p c * started s (n.source c) ≡ n.capacity c - n.initial c + n.q c * s.ended (n.dest c)

pub record Behaviour : Type 0 where
  pub started : ℕ → ℕ → ℕ
  pub ended : ℕ → ℕ → ℕ

abbrev pub counts : (ℕ → State) → Behaviour
counts s = record { started = λ t. started (s t); ended = λ t. (s t).ended }

pub record Legal (n : Net) (d : ℕ → ℕ) (b : Behaviour) : Type 0 where
  pub fed : (t : ℕ) → Fed n (b.started t) (b.ended t)
  pub single : (t a : ℕ) → a < n.actors → b.started t a ≤ b.ended t a + 1
  pub long : (t a k : ℕ) → a < n.actors → 0 < k → k ≤ b.ended t a → (s : ℕ) × (s + d a ≤ t) × (k ≤ b.started s a)

pub record Eager (n : Net) (d : ℕ → ℕ) (b : Behaviour) : Type 0 where
  pub again : (t a : ℕ) → a < n.actors → (b.ended t a < b.started t a) ⊎ Blocked n (b.started t) (b.ended t) a
  pub short : (t a : ℕ) → a < n.actors → b.started t a ≤ b.ended (t + d a) a
  pub grows : (s t a : ℕ) → a < n.actors → s ≤ t → b.ended s a ≤ b.ended t a

abbrev pub Law : Type 0
Law = (n : Net) (d : ℕ → ℕ) (e l : Behaviour) → Sound n → Timed n d → Eager n d e → Legal n d l →
    (t a : ℕ) → a < n.actors → l.ended t a ≤ e.ended t a

pub record RunFits : Type 0 where
  pub legal : (n : Net) (time : ℕ → ℕ) → Sound n → Timed n time → Legal n time (counts (run n time))
  pub eager : (n : Net) (time : ℕ → ℕ) → Sound n → Timed n time → Eager n time (counts (run n time))

-- due says how many ticks f has to go at most, by actor
abbrev pub Ahead : Net → State → (ℕ → ℕ) → State → Type 0
Ahead n f due g = (a : ℕ) → a < n.actors → (started g a < started f a) ⊎ ((started g a ≡ started f a) × (due a ≤ g.left a))

pub record Paced (n : Net) (time promise : ℕ → ℕ) (t : ℕ) (s : State) (due : ℕ → ℕ) : Type 0 where
  pub balanced : Balanced n s
  pub behind : Ahead n (run n time t) (run n time t).left s
  pub ahead : Ahead n s due (run n promise t)

pub record Due (n : Net) (promise : ℕ → ℕ) (s : State) (due : ℕ → ℕ) : Type 0 where
  pub covers : (a : ℕ) → a < n.actors → s.left a ≤ due a
  pub most : (a : ℕ) → a < n.actors → due a ≤ promise a
  pub none : (a : ℕ) → a < n.actors → s.left a ≡ 0 → due a ≡ 0

-- ticks left come to left, and due, after the starts, to due'
pub record Serves (n : Net) (s : State) (left due due' : ℕ → ℕ) : Type 0 where
  pub falls : (a : ℕ) → a < n.actors → left a ≤ s.left a
  pub slow : (a : ℕ) → a < n.actors → s.left a ≤ left a + 1
  pub nearer : (a : ℕ) → a < n.actors → 0 < left a → due' a + 1 ≤ due a

pub record Pace : Type 0 where
  pub begins : (n : Net) (time promise due : ℕ → ℕ) → Sound n → Timed n time → Timed n promise →
      Due n promise (start n time (initial_state n)) due → Paced n time promise 0 (start n time (initial_state n)) due
  pub goes : (n : Net) (time promise : ℕ → ℕ) (t : ℕ) (s : State) (left due due' : ℕ → ℕ) → Sound n → Timed n time → Timed n promise →
      Paced n time promise t s due → Serves n s left due due' → Due n promise (tick n time left s) due' →
      Paced n time promise (suc t) (tick n time left s) due'
  pub counts_between : (n : Net) (time promise : ℕ → ℕ) (t : ℕ) (s : State) (due : ℕ → ℕ) → Paced n time promise t s due → Due n promise s due →
      (a : ℕ) → a < n.actors → ((run n promise t).ended a ≤ s.ended a) × (s.ended a ≤ (run n time t).ended a)
