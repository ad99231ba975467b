-- The members that the four give to the trait, and what it is to have one outcome. Assumes nothing.
use Rattle.std.specs.Prelude.{◌≡◌, ℕ, length, false, nat_le}
use Rattle.policy.specs.declared.meaning.Policy.{Ghosts}
use Rattle.policy.specs.declared.free.Free.{Free}
use Rattle.policy.specs.declared.ring.Ring.{Ring}
use Rattle.policy.specs.declared.slice.Slice.{Slice}
use Rattle.policy.specs.declared.pair.Pair.{Pair}
use Rattle.policy.specs.Works.{works_of, lefts_of, freed, FreeTicks, RowsLaid, RowsCleared}
use Rattle.policy.specs.Turns.{ringed, RingTicks}
use Rattle.policy.specs.Wheel.{wide}
use Rattle.policy.specs.Slices.{sliced, SliceTicks, SliceLays, SliceKeeps}
use Rattle.policy.specs.Join.{side, joined, PairLays}

pub record Exact {X : Type 0} (m : Ghosts X) (like : X → X → Type 0) : Type 0 where
  pub same : (p : X) → like p p
  pub number : (p q : X) → like p q → (m.view p).number ≡ (m.view q).number
  pub work : (p q : X) → like p q → (a : ℕ) → (m.view p).work a ≡ (m.view q).work a
  pub promise : (p q : X) → like p q → (a : ℕ) → (m.view p).promise a ≡ (m.view q).promise a
  pub left : (p q : X) → like p q → (a : ℕ) → (m.view p).left a ≡ (m.view q).left a
  pub due : (p q : X) → like p q → (a : ℕ) → (m.view p).due a ≡ (m.view q).due a
  pub ticks : (p p' q q' : X) → like p q → m.ticks p p' → m.ticks q q' → like p' q'
  pub lays : (p p' q q' : X) (a : ℕ) → like p q → m.lays p a p' → m.lays q a q' → like p' q'
  pub clears : (p p' q q' : X) → like p q → m.clears p p' → m.clears q q' → like p' q'

abbrev pub free : Ghosts Free
free = record {
  view = λ p. freed p.rows.list.items;
  ticks = λ p q. FreeTicks p.rows.list.items q.rows.list.items;
  lays = λ p a q. RowsLaid p.rows.list.items a q.rows.list.items;
  clears = λ p q. RowsCleared p.rows.list.items q.rows.list.items;
}

abbrev pub ring : Ghosts Ring
ring = record {
  view = λ p. ringed (length p.rows.list.items) (works_of p.rows.list.items) (lefts_of p.rows.list.items) p.turn p.busy;
  ticks = λ p q. RingTicks (length p.rows.list.items) (works_of p.rows.list.items) (lefts_of p.rows.list.items) p.turn p.busy (length q.rows.list.items) (works_of q.rows.list.items) (lefts_of q.rows.list.items) q.turn q.busy;
  lays = λ p a q. RowsLaid p.rows.list.items a q.rows.list.items × (q.turn ≡ p.turn) × (q.busy ≡ p.busy);
  clears = λ p q. RowsCleared p.rows.list.items q.rows.list.items × (q.turn ≡ p.turn) × (q.busy ≡ false);
}

abbrev pub slice : {X : Type 0} (m : Ghosts X) → Ghosts (Slice X m)
slice m = record {
  view = λ p. sliced (m.view p.below) p.period p.slots p.wheel;
  ticks = λ p q. SliceTicks m.ticks p.below p.period p.slots p.wheel q.below q.period q.slots q.wheel;
  lays = λ p a q. SliceLays m.view m.lays (nat_le (wide p.period p.slots ((m.view p.below).promise a)) 65535) p.below a q.below × SliceKeeps p.period p.slots p.wheel q.period q.slots q.wheel;
  clears = λ p q. m.clears p.below q.below × SliceKeeps p.period p.slots p.wheel q.period q.slots q.wheel;
}

abbrev pub pair : {X Y : Type 0} → Ghosts X → Ghosts Y → Ghosts (Pair X Y)
pair m n = record {
  view = λ p. joined (m.view p.first) (n.view p.second);
  ticks = λ p q. m.ticks p.first q.first × n.ticks p.second q.second;
  lays = λ p a q. PairLays m.lays n.lays (side (m.view p.first).number (n.view p.second).number a) p.first p.second q.first q.second;
  clears = λ p q. m.clears p.first q.first × n.clears p.second q.second;
}
