-- The pile that a card is shared by: a slice of 2 in 5 over a ring of all the graph's actors. Assumes nothing.
use Rattle.std.specs.Prelude.{◌≡◌, ℕ, ◌<◌, ◌≤◌, length, Ok, Err, Result}
use Rattle.graph.specs.declared.graph.Graph.{Graph}
use Rattle.policy.specs.Meaning.{View}
use Rattle.policy.specs.Slices.{sliced, Sliceable, SliceChecked}
use Rattle.policy.specs.Works.{works_of, lefts_of}
use Rattle.policy.specs.Turns.{ringed}
use Rattle.policy.specs.declared.fault.Fault.{Fault as PolicyFault}
use Rattle.policy.specs.declared.fault.Fault.TheVariants.{Promise}
use Rattle.policy.specs.declared.ring.Ring.{Ring}
use Rattle.policy.specs.contracts.ring.RingPolicy.TheImpl.{ghosts}
use Rattle.policy.specs.declared.slice.Slice.{Slice}
use Rattle.runs.specs.Seen.{net, times_of}
use Rattle.rates.specs.Agree.{Agreed}
use Rattle.report.specs.declared.fault.Fault.{Fault}
use Rattle.report.specs.declared.fault.Fault.TheVariants.{Policy}
use Rattle.report.specs.Lines.{promised, promised_to}

-- what a ring and a slice over it show
abbrev pub ring_seen : Ring → View
ring_seen r = ringed (length r.rows.list.items) (works_of r.rows.list.items) (lefts_of r.rows.list.items) r.turn r.busy

abbrev pub pile_seen : Slice Ring ghosts → View
pile_seen p = sliced (ring_seen p.below) p.period p.slots p.wheel

-- a slice of 2 in 5 over the ring, or why there is none
abbrev pub SliceIs : Ring → Result (Slice Ring ghosts) PolicyFault → Type 0
SliceIs r (Ok p) = (p.below ≡ r) × (p.period ≡ 5) × (p.slots ≡ 2) × Sliceable (ring_seen r) 5 2
SliceIs r (Err f) = SliceChecked (ring_seen r) 5 2 (Err f)

-- its works are the graph's times and its promises fit, or they are over 65,535
abbrev pub PileIs : Graph → Result (Slice Ring ghosts) Fault → Type 0
PileIs g (Ok p) = (promised g ≤ 65535) × Agreed (net g) (times_of g) (pile_seen p) × ((a : ℕ) → (pile_seen p).promise a ≡ promised_to g a)
PileIs g (Err f) = (f ≡ Policy (Promise 0)) × (65535 < promised g)
