use Rattle.runs.specs.Loops.{Marked}
use Rattle.runs.specs.Standings.{state_of}
use Rattle.runs.proofs.standing.Standing.ready.Given as goal

abbrev pub invariant-loop-c : goal.invariant-loop-c
invariant-loop-c l = Marked l.c l.wires.actors l.channels (state_of l.self) l.go
