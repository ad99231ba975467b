-- What a policy means, and what its calls do to that.
--     View              what is seen of each actor; 0 for an absent one
--     Sound v           what always holds
--     SameTerms v w     what no call changes
--     Served v w        one tick
--     Cleared v w       a clear
--     layable v a       whether a lay is done
--     Laid v w a        a lay that was done
--     ShowsAt v a u b   u shows of actor b what v shows of actor a
--     Alike v u         u shows what v shows
use Rattle.std.specs.Prelude.{◌≡◌, ℕ, ◌+◌, ◌<◌, ◌≤◌, Bool, ◌&&◌, ◌==◌, ◌≢◌, nat_lt}

pub record View : Type 0 where
  pub number : ℕ
  pub work : ℕ → ℕ
  pub promise : ℕ → ℕ
  pub left : ℕ → ℕ
  pub due : ℕ → ℕ

pub record Sound (v : View) : Type 0 where
  pub few : v.number ≤ 16
  pub absent : (a : ℕ) → v.number ≤ a → v.promise a ≡ 0
  pub promise_limit : (a : ℕ) → v.promise a ≤ 65535
  pub work_promise : (a : ℕ) → v.work a ≤ v.promise a
  pub left_work : (a : ℕ) → v.left a ≤ v.work a
  pub left_due : (a : ℕ) → v.left a ≤ v.due a
  pub due_promise : (a : ℕ) → v.due a ≤ v.promise a
  pub due_zero : (a : ℕ) → v.left a ≡ 0 → v.due a ≡ 0

pub record SameTerms (v w : View) : Type 0 where
  pub number : w.number ≡ v.number
  pub work : (a : ℕ) → w.work a ≡ v.work a
  pub promise : (a : ℕ) → w.promise a ≡ v.promise a

-- a left of 0 stays, any other falls by one or stays, and its due falls
pub record Served (v w : View) : Type 0 where
  pub terms : SameTerms v w
  pub rest : (a : ℕ) → v.left a ≡ 0 → w.left a ≡ 0
  pub slow : (a : ℕ) → v.left a ≤ w.left a + 1
  pub falls : (a : ℕ) → w.left a ≤ v.left a
  pub nearer : (a : ℕ) → 0 < v.left a → w.due a + 1 ≤ v.due a

pub record Cleared (v w : View) : Type 0 where
  pub terms : SameTerms v w
  pub none : (a : ℕ) → w.left a ≡ 0

-- the actor is there and has no work left
abbrev pub layable : View → ℕ → Bool
layable v a = nat_lt a v.number && v.left a == 0

-- left becomes work; the others keep left, and none is due later
pub record Laid (v w : View) (a : ℕ) : Type 0 where
  pub terms : SameTerms v w
  pub present : a < v.number
  pub idle : v.left a ≡ 0
  pub given : w.left a ≡ v.work a
  pub others : (b : ℕ) → (b ≢ a) → w.left b ≡ v.left b
  pub no_later : (b : ℕ) → (b ≢ a) → w.due b ≤ v.due b

pub record ShowsAt (v : View) (a : ℕ) (u : View) (b : ℕ) : Type 0 where
  pub work : u.work b ≡ v.work a
  pub promise : u.promise b ≡ v.promise a
  pub left : u.left b ≡ v.left a
  pub due : u.due b ≡ v.due a

pub record Alike (v u : View) : Type 0 where
  pub number : u.number ≡ v.number
  pub each : (a : ℕ) → ShowsAt v a u a
