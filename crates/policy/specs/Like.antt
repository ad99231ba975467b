-- When two policies are alike, so that nothing tells them apart.
use Rattle.std.specs.Prelude.{◌≡◌, ℕ, length, slice_index}
use Rattle.policy.specs.declared.meaning.Policy.{Ghosts}
use Rattle.policy.specs.declared.rows.Rows.{Rows}
use Rattle.policy.specs.Works.{works_of, lefts_of}
use Rattle.policy.specs.declared.ring.Ring.{Ring}
use Rattle.policy.specs.declared.slice.Slice.{Slice}
use Rattle.policy.specs.declared.pair.Pair.{Pair}

-- the same actors, works and lefts
pub record RowsLike (p q : Rows) : Type 0 where
  pub number : length p.list.items ≡ length q.list.items
  pub works : works_of p.list.items ≡ works_of q.list.items
  pub left : (a : ℕ) → slice_index (lefts_of p.list.items) a ≡ slice_index (lefts_of q.list.items) a

-- and the same turn
pub record RingLike (p q : Ring) : Type 0 where
  pub rows : RowsLike p.rows q.rows
  pub turn : p.turn ≡ q.turn
  pub busy : p.busy ≡ q.busy

-- the same wheel, over policies that are alike
pub record SliceLike {X : Type 0} {m : Ghosts X} (like : X → X → Type 0) (p q : Slice X m) : Type 0 where
  pub below : like p.below q.below
  pub period : p.period ≡ q.period
  pub slots : p.slots ≡ q.slots
  pub wheel : p.wheel ≡ q.wheel

-- policies that are alike, side by side
pub record PairLike {X Y : Type 0} (f : X → X → Type 0) (g : Y → Y → Type 0) (p q : Pair X Y) : Type 0 where
  pub first : f p.first q.first
  pub second : g p.second q.second
