-- When a policy's works agree with a graph's times. Assumes nothing.
--
-- Agree     at an actor: both sides have it, with the same number, or neither has it
-- Agreed    at every actor
-- Differ    an actor is the lowest at which they do not agree
-- Lowest    that actor, if there is one
-- Checked   what the check of a join answers
use Rattle.std.specs.Prelude.{◌≡◌, ℕ, ◌<◌, Some, None, Ok, Err, Option, Result}
use Rattle.policy.specs.Meaning.{View}
use Rattle.model.specs.Net.{Net}
use Rattle.rates.specs.declared.fault.Fault.{Fault}
use Rattle.rates.specs.declared.fault.Fault.TheVariants.{Works}

pub record Agree (actors : ℕ) (time : ℕ → ℕ) (v : View) (a : ℕ) : Type 0 where
  pub there : a < actors → a < v.number
  pub here : a < v.number → a < actors
  pub same : v.work a ≡ time a

abbrev pub Agreed : Net → (ℕ → ℕ) → View → Type 0
Agreed n time v = (a : ℕ) → Agree n.actors time v a

pub record Differ (n : Net) (time : ℕ → ℕ) (v : View) (a : ℕ) : Type 0 where
  pub differs : Agree n.actors time v a → ⊥
  pub lowest : (b : ℕ) → b < a → Agree n.actors time v b

abbrev pub Lowest : Net → (ℕ → ℕ) → View → Option ℕ → Type 0
Lowest n time v None = Agreed n time v
Lowest n time v (Some a) = Differ n time v a

abbrev pub Checked : Net → (ℕ → ℕ) → View → Result Unit Fault → Type 0
Checked n time v (Ok _) = Agreed n time v
Checked n time v (Err f) = (a : ℕ) × (f ≡ Works a) × Differ n time v a
