use Rattle.std.proofs.Common.{◌+◌}
use Rattle.leaps.proofs.Walks.{Walked}
use Rattle.leaps.proofs.moves.Moves.give.Given as goal

abbrev pub invariant-loop-m : goal.invariant-loop-m
invariant-loop-m l = Walked ◌+◌ l.m-items l.m-index l.initial.levels l.levels
