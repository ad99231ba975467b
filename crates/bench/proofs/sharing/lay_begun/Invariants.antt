use Rattle.runs.specs.Seen.{at, state}
use Rattle.bench.specs.Sharing.{Lays, newly}
use Rattle.bench.proofs.sharing.lay_begun.Given as goal

abbrev pub invariant-loop-a : goal.invariant-loop-a
invariant-loop-a g l = Lays g.P.Policy (newly (at l.left) (state l.run)) l.a l.initial.policy l.policy
