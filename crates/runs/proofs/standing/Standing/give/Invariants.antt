use Rattle.runs.specs.Loops.{Given}
use Rattle.runs.specs.Standings.{state_of}
use Rattle.runs.proofs.standing.Standing.give.Given as goal

abbrev pub invariant-loop-c : goal.invariant-loop-c
invariant-loop-c l = Given l.c l.channels l.done (state_of l.initial.self) (state_of l.self)
