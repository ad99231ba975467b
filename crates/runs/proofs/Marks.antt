-- Tables after a write, and marks. Assumes nothing.
use Rattle.std.proofs.Common.{◌≡◌, ℕ, zero, suc, replicate, ◌+◌, ◌<◌, ◌≤◌, Bool, true, false, cond, ◌&&◌, ltb, ⊎_elim, ◌≢◌, List, length, get_or, set, refl, ap, arith, get_or-set_other, get_or-set_same, below_more}
use Rattle.std.proofs.lemmas.Bool.{cases_lt}
use Rattle.std.proofs.lemmas.Bool.Decides.{nat_tests}
use Rattle.model.specs.Net.{Net}
use Rattle.runs.specs.declared.firing.Firing.{Firing}
use Rattle.runs.specs.declared.firing.Firing.TheVariants.{Idle, UnderWay}
use Rattle.runs.specs.declared.firing.Event.TheVariants.{Served}
use Rattle.runs.specs.Firings.{left_of, after}
use Rattle.runs.specs.declared.standing.Doing.{Doing}
use Rattle.runs.specs.declared.standing.Held.{Held}
use Rattle.runs.specs.Standings.{none, idle, state_of, Vacant}

-- what holds of the items below i, and of the new one, holds of one more; and those from i on stay
module _ {X : Type 0} (R : ℕ → X → Type 0) (xs : List X) (d : X) (i : ℕ) (x : X) (lt : i < length xs) where
  pub set_are : ((k : ℕ) → k < i → R k (get_or xs k d)) → R i x → (k : ℕ) → k < i + 1 → R k (get_or (set xs i x) k d)
  set_are are here = below_more _ _ (λ k h. let ne : k ≢ i = omega arith in rw get_or-set_other (are k h)) (rw get_or-set_same here)

  pub set_stay : ((k : ℕ) → i ≤ k → R k (get_or xs k d)) → (k : ℕ) → i + 1 ≤ k → R k (get_or (set xs i x) k d)
  set_stay stay k h = let ne : k ≢ i = omega arith in rw get_or-set_other (stay k (omega arith))

  pub set_all : ((k : ℕ) → R k (get_or xs k d)) → R i x → (k : ℕ) → R k (get_or (set xs i x) k d)
  set_all all here k =
      ⊎_elim (λ h. set_are (λ k _. all k) here k h) (λ h. set_stay (λ k _. all k) k h) (cases_lt k (i + 1))

-- ticks left after a serve
pub left_after : (f : Firing) (m : ℕ) → left_of (after f (Served m)) ≡ cond (ltb 0 (left_of f)) m 0
left_after Idle m = refl
left_after (UnderWay l) m = grind (arith, nat_tests)

-- one more channel looked at
pub hinders_more : (b x y g z : Bool) → z ≡ (g && y) → g ≡ (b && x) → z ≡ (b && (y && x))
hinders_more true true true g z e f = cc
hinders_more true true false g z e f = cc
hinders_more true false true g z e f = cc
hinders_more true false false g z e f = cc
hinders_more false x y g z e f = cc

-- an actor that is out stays out
pub stays_out : (b x z : Bool) → b ≡ false → z ≡ (b && x) → z ≡ false
stays_out false x z f e = e
stays_out true x z f e = cc

-- a table of one and the same, and what is past its end
pub nothing : {X : Type 0} (x : X) (n i : ℕ) → get_or (replicate n x) i x ≡ x
nothing x zero i = refl
nothing x (suc n) zero = refl
nothing x (suc n) (suc i) = nothing x n i

-- where nothing stands anywhere
pub rest_vacant : (n : Net) → Vacant n (state_of (record { held = replicate 32 none; doing = replicate 16 idle }))
rest_vacant n = (
  λ c _. (ap (λ (h : Held). h.tokens) (nothing none 32 c), ap (λ (h : Held). h.free) (nothing none 32 c)),
  λ a _. (ap (λ (d : Doing). left_of d.firing) (nothing idle 16 a), ap (λ (d : Doing). d.ended) (nothing idle 16 a)),
)
