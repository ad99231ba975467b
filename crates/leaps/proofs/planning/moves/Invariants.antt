use Rattle.std.proofs.Common.{◌≡◌, length}
use Rattle.leaps.specs.Plans.{MovesOf}
use Rattle.leaps.proofs.planning.moves.Given as goal

abbrev pub invariant-loop-c : goal.invariant-loop-c
invariant-loop-c l = (length l.stores ≡ 64) × MovesOf l.c l.end l.channels l.stores
