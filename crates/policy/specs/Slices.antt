-- What a slice shows and does.
--     turning v p s w          what a wheel at w makes of what the policy below shows
--     shown l x                x, where a promise of l fits
--     sliced v p s w           what a slice shows: of each actor whose promise fits, what the wheel makes of it
--     Sliceable v p s          p and s are within their limits, and every promise fits
--     TooLong v p s a          a is the lowest actor whose promise does not fit
--     SliceChecked v p s r     what the check answers
--     SliceMade v p s q r      the period q and slots r that are made where p and s are asked
--     SliceKeeps .. ..         the wheel stays
--     SliceTicks f .. ..       one tick
--     SliceLays v f b ..       a lay that was done below, where the promise fits (b)
use Rattle.std.specs.Prelude.{◌≡◌, ℕ, ◌<◌, ◌≤◌, Bool, true, false, cond, Ok, Err, Result, nat_le}
use Rattle.policy.specs.declared.fault.Fault.{Fault}
use Rattle.policy.specs.declared.fault.Fault.TheVariants.{Crowd, Limits, Promise}
use Rattle.policy.specs.Meaning.{View}
use Rattle.policy.specs.Round.{after}
use Rattle.policy.specs.Wheel.{wide, wait}

abbrev pub turning : View → ℕ → ℕ → ℕ → View
turning v p s w = record {
  number = v.number;
  work = v.work;
  promise = λ a. wide p s (v.promise a);
  left = v.left;
  due = λ a. wait p s w (v.due a);
}

abbrev pub shown : ℕ → ℕ → ℕ
shown l x = cond (nat_le l 65535) x 0

-- no slice that was made has an actor whose promise does not fit
abbrev pub sliced : View → ℕ → ℕ → ℕ → View
sliced v p s w = record {
  number = v.number;
  work = λ a. shown (wide p s (v.promise a)) (v.work a);
  promise = λ a. shown (wide p s (v.promise a)) (wide p s (v.promise a));
  left = λ a. shown (wide p s (v.promise a)) (v.left a);
  due = λ a. shown (wide p s (v.promise a)) (wait p s w (v.due a));
}

pub record Sliceable (v : View) (p s : ℕ) : Type 0 where
  pub one : 0 < s
  pub within : s ≤ p
  pub fits : (a : ℕ) → wide p s (v.promise a) ≤ 65535

pub record TooLong (v : View) (p s a : ℕ) : Type 0 where
  pub one : 0 < s
  pub within : s ≤ p
  pub present : a < v.number
  pub long : 65535 < wide p s (v.promise a)
  pub lowest : (b : ℕ) → b < a → wide p s (v.promise b) ≤ 65535

-- the limits are looked at first, and have place 0
abbrev pub SliceChecked : View → ℕ → ℕ → Result Unit Fault → Type 0
SliceChecked v p s (Ok _) = Sliceable v p s
SliceChecked v p s (Err Crowd) = ⊥
SliceChecked v p s (Err (Limits a)) = (a ≡ 0) × (0 < s → p < s)
SliceChecked v p s (Err (Promise a)) = TooLong v p s a

-- as asked, or P = 1 and s = 1
pub record SliceMade (v : View) (p s q r : ℕ) : Type 0 where
  pub taken : Sliceable v p s → (q ≡ p) × (r ≡ s)
  pub refused : (Sliceable v p s → ⊥) → (q ≡ 1) × (r ≡ 1)

pub record SliceKeeps (p s w p' s' w' : ℕ) : Type 0 where
  pub period : p' ≡ p
  pub slots : s' ≡ s
  pub wheel : w' ≡ w

-- the wheel moves on; below is served at a position under s, and else stays
pub record SliceTicks {X : Type 0} (ticks : X → X → Type 0) (b : X) (p s w : ℕ) (b' : X) (p' s' w' : ℕ) : Type 0 where
  pub period : p' ≡ p
  pub slots : s' ≡ s
  pub wheel : w' ≡ after p w
  pub served : w < s → ticks b b'
  pub passed : s ≤ w → b' ≡ b

-- an actor whose promise does not fit has no work, so that there is nothing to do
abbrev pub SliceLays : {X : Type 0} → (X → View) → (X → ℕ → X → Type 0) → Bool → X → ℕ → X → Type 0
SliceLays view lays true b a b' = lays b a b'
SliceLays view lays false b a b' = (a < (view b).number) × (b' ≡ b)
