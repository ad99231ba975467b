-- What a policy goes through while an actor's work is served, and when that work ends.
use Rattle.std.specs.Prelude.{◌≡◌, ℕ, suc, ◌≤◌, ◌≢◌}
use Rattle.policy.specs.declared.meaning.Policy.{Ghosts}

-- t ticks from p on, others being laid at any time
pub data Run {X : Type 0} (m : Ghosts X) (a : ℕ) (p : X) : ℕ → X → Type 0 where
  here : Run m a p 0 p
  ticked : (t : ℕ) (q r : X) → Run m a p t q → m.ticks q r → Run m a p (suc t) r
  laid : (t b : ℕ) (q r : X) → (b ≢ a) → Run m a p t q → m.lays q b r → Run m a p t r

-- in every run the work of a ends at tick `first` or later, and has ended by tick `last`
pub record EndsWithin {X : Type 0} (m : Ghosts X) (p : X) (a first last : ℕ) : Type 0 where
  pub not_before : (t : ℕ) (q : X) → Run m a p t q → (m.view q).left a ≡ 0 → first ≤ t
  pub by_then : (t : ℕ) (q : X) → Run m a p t q → last ≤ t → (m.view q).left a ≡ 0
