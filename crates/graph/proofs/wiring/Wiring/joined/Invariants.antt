use Rattle.std.proofs.Common.{◌≡◌, ℕ, ◌-◌, true, length, count_by}
use Rattle.graph.specs.Piece.{has, Way}
use Rattle.graph.proofs.wiring.Wiring.joined.Given as goal

abbrev pub invariant-loop-actor : goal.invariant-loop-actor
invariant-loop-actor l =
    (length l.marks ≡ 16) × (has l.marks 0 ≡ true)
    × ((a : ℕ) → has l.marks a ≡ true → Way l.self.channels.now a)

abbrev pub decreases-loop-actor : goal.decreases-loop-actor
decreases-loop-actor l = 16 - count_by (λ b. b) l.marks
