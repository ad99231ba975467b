-- Ticks left of a firing, and what start and serve make of it. Assumes nothing.
use Rattle.std.specs.Prelude.{ℕ, cond, ◌&&◌, List, nat_lt, slice_index_or}
use Rattle.runs.specs.declared.firing.Firing.{Firing}
use Rattle.runs.specs.declared.firing.Firing.TheVariants.{Idle, UnderWay}
use Rattle.runs.specs.declared.firing.Event.{Event}
use Rattle.runs.specs.declared.firing.Event.TheVariants.{Start, Served}

abbrev pub left_of : Firing → ℕ
left_of Idle = 0
left_of (UnderWay l) = l

abbrev pub lefts : List Firing → ℕ → ℕ
lefts fs a = left_of (slice_index_or fs a Idle)

-- a start sets the ticks left; a serve does so of a firing under way, which is over when none are left
abbrev pub after : Firing → Event → Firing
after f (Start t) = UnderWay t
after Idle (Served m) = Idle
after (UnderWay l) (Served m) = cond (nat_lt 0 l && nat_lt 0 m) (UnderWay m) Idle
