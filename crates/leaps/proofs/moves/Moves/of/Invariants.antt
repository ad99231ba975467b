use Rattle.leaps.proofs.Gathers.{Gathered}
use Rattle.leaps.proofs.moves.Moves.of.Given as goal

abbrev pub invariant-loop-e : goal.invariant-loop-e
invariant-loop-e l = Gathered l.e l.store-items l.lists
