-- What a pair shows and does.
--     side n m a             which of two policies, of n and m actors, has actor a of the pair, and its number there
--     seen s f g             what is seen at a side: of f by the first, of g by the second
--     joined_at n m v w      what a pair shows of what its two show, of n and m actors
--     joined v w             the same, of as many actors as the two show
--     SideBySide v w u       u shows the first's actors and after them the second's
--     PairChecked v w r      what the check answers
--     PairMade v w u         what a pair shows as it is made
--     PairLays f g s ..      a lay that was done at a side; the other stays
use Rattle.std.specs.Prelude.{◌≡◌, ℕ, ◌+◌, ◌-◌, ◌<◌, ◌≤◌, cond, ◌&&◌, Ok, Err, Result, nat_le}
use Rattle.policy.specs.declared.fault.Fault.{Fault}
use Rattle.policy.specs.declared.fault.Fault.TheVariants.{Crowd, Limits, Promise}
use Rattle.policy.specs.declared.pair.Side.{Side}
use Rattle.policy.specs.declared.pair.Side.TheVariants.{First, Second}
use Rattle.policy.specs.Meaning.{View, ShowsAt, Alike}

-- of more than 16 together all is the first's
abbrev pub side : ℕ → ℕ → ℕ → Side
side n m a = cond (nat_le n a && nat_le (n + m) 16) (Second (a - n)) (First a)

abbrev pub seen : Side → (ℕ → ℕ) → (ℕ → ℕ) → ℕ
seen (First b) f g = f b
seen (Second b) f g = g b

abbrev pub joined_at : ℕ → ℕ → View → View → View
joined_at n m v w = record {
  number = cond (nat_le (n + m) 16) (n + m) n;
  work = λ a. seen (side n m a) v.work w.work;
  promise = λ a. seen (side n m a) v.promise w.promise;
  left = λ a. seen (side n m a) v.left w.left;
  due = λ a. seen (side n m a) v.due w.due;
}

abbrev pub joined : View → View → View
joined v w = joined_at v.number w.number v w

pub record SideBySide (v w u : View) : Type 0 where
  pub number : u.number ≡ v.number + w.number
  pub first : (a : ℕ) → a < v.number → ShowsAt v a u a
  pub second : (b : ℕ) → ShowsAt w b u (v.number + b)

abbrev pub PairChecked : View → View → Result Unit Fault → Type 0
PairChecked v w (Ok _) = v.number + w.number ≤ 16
PairChecked v w (Err Crowd) = 16 < v.number + w.number
PairChecked v w (Err (Limits _)) = ⊥
PairChecked v w (Err (Promise _)) = ⊥

pub record PairMade (v w u : View) : Type 0 where
  pub taken : v.number + w.number ≤ 16 → SideBySide v w u
  pub refused : 16 < v.number + w.number → Alike v u

abbrev pub PairLays : {X Y : Type 0} → (X → ℕ → X → Type 0) → (Y → ℕ → Y → Type 0) → Side → X → Y → X → Y → Type 0
PairLays f g (First b) x y x' y' = f x b x' × (y' ≡ y)
PairLays f g (Second b) x y x' y' = (x' ≡ x) × g y b y'
