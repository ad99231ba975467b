use Rattle.std.proofs.Common.{◌≡◌, ℕ, ◌<◌, ◌≤◌, false, not, length}
use Rattle.model.specs.Net.{busy}
use Rattle.runs.specs.Loops.{flag}
use Rattle.runs.specs.Standings.{state_of}
use Rattle.runs.proofs.standing.Standing.idle.Given as goal

abbrev pub invariant-loop-a : goal.invariant-loop-a
invariant-loop-a l =
    (length l.idle ≡ 16)
    × ((a : ℕ) → a < l.a → flag l.idle a ≡ not (busy (state_of l.self) a))
    × ((a : ℕ) → l.a ≤ a → flag l.idle a ≡ false)
