-- What holds of every wheel, and numbers worked out by the definitions.
use Rattle.std.specs.Prelude.{◌≡◌, ℕ, ◌<◌, ◌≤◌, true, false, List, [], ◌∷◌, Some}
use Rattle.policy.specs.Wheel.{wait, wide, Until, Longest}
use Rattle.policy.specs.Turns.{next, owed}

-- a wait is the first tick by which enough positions have passed, and a promise the longest wait
abbrev pub WheelLaws : Type 0
WheelLaws = (p s : ℕ) → 0 < s → s ≤ p → ((w d : ℕ) → w < p → Until p s w d (wait p s w d)) × ((d : ℕ) → Longest p s d (wide p s d))

-- the works of the ring below
abbrev pub works : List ℕ
works = 2 ∷ 3 ∷ []

pub record Worked : Type 0 where
  -- a slice of 2 in 5
  pub two : wide 5 2 2 ≡ 5
  pub three : wide 5 2 3 ≡ 9
  pub two_waits : wait 5 2 2 2 ≡ 5
  pub three_waits : wait 5 2 2 3 ≡ 9
  pub sooner : wait 5 2 0 3 ≡ 6
  -- a new ring of 2 and 3, all laid: the first goes first, and both are due as the works come round
  pub first : next 2 works 1 false ≡ Some 0
  pub first_due : owed 2 works works 1 false 0 ≡ 2
  pub second_due : owed 2 works works 1 false 1 ≡ 5
  -- one tick on, in the first's turn
  pub goes_on : next 2 (1 ∷ 3 ∷ []) 0 true ≡ Some 0
  pub own_due : owed 2 works (1 ∷ 3 ∷ []) 0 true 0 ≡ 1
  pub other_due : owed 2 works (1 ∷ 3 ∷ []) 0 true 1 ≡ 4
  -- laid again as its turn ends, the first waits for the second
  pub turn : next 2 works 0 false ≡ Some 1
  pub last_due : owed 2 works works 0 false 0 ≡ 5
