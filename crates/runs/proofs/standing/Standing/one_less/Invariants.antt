use Rattle.std.proofs.Common.{◌≡◌, ℕ, ◌<◌, length}
use Rattle.model.specs.Net.{fallen}
use Rattle.runs.specs.Nets.{at}
use Rattle.runs.specs.Standings.{state_of}
use Rattle.runs.proofs.standing.Standing.one_less.Given as goal

abbrev pub invariant-loop-a : goal.invariant-loop-a
invariant-loop-a l = (length l.left ≡ 16) × ((a : ℕ) → a < l.a → at l.left a ≡ fallen (state_of l.self) a)
