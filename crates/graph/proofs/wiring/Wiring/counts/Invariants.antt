use Rattle.std.proofs.Common.{◌≡◌, ℕ, ◌-◌, ◌<◌, ◌≤◌, length, sum}
use Rattle.graph.specs.Counts.{Solves, Under, at}
use Rattle.graph.proofs.wiring.Wiring.counts.Given as goal

abbrev pub invariant-loop-actor : goal.invariant-loop-actor
invariant-loop-actor l =
    (length l.counts ≡ 16) × ((a : ℕ) → a < l.self.actors → 1 ≤ at l.counts a) × ((a : ℕ) → at l.counts a ≤ 4096)
    × ((m : ℕ → ℕ) → Solves l.self.actors l.self.channels.now m → Under (at l.counts) m)

abbrev pub decreases-loop-actor : goal.decreases-loop-actor
decreases-loop-actor l = 65536 - sum l.counts
