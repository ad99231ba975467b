use Rattle.std.proofs.Common.{◌≡◌, ◌++◌, length, drop}
use Rattle.runs.specs.Loops.{Begun}
use Rattle.runs.specs.Standings.{state_of}
use Rattle.runs.proofs.standing.Standing.begin.Given as goal

abbrev pub invariant-loop-a : goal.invariant-loop-a
invariant-loop-a l =
    (length l.doing-items ≡ l.actors) × Begun l.a l.times l.go (state_of l.fn.self) (state_of (record l.fn.self { doing = l.doing-items ++ drop l.actors l.fn.self.doing }))
