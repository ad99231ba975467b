use Rattle.runs.specs.Loops.{Taken}
use Rattle.runs.specs.Standings.{state_of}
use Rattle.runs.proofs.standing.Standing.take.Given as goal

abbrev pub invariant-loop-c : goal.invariant-loop-c
invariant-loop-c l = Taken l.c l.channels l.go (state_of l.initial.self) (state_of l.self)
