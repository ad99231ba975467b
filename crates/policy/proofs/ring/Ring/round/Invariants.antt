use Rattle.std.proofs.Common.{◌≡◌, ◌+◌, ◌-◌, ◌*◌, ◌<◌, ◌≤◌, length}
use Rattle.policy.specs.Works.{works_of}
use Rattle.policy.specs.Turns.{works_to}
use Rattle.policy.proofs.ring.Ring.round.Given as goal

abbrev pub invariant-loop-step : goal.invariant-loop-step
invariant-loop-step l =
    let ws = works_of l.self.rows.list.items in
    (l.n ≡ length l.self.rows.list.items) × (0 < l.n → l.at < l.n) × (l.sum ≤ 4095 * l._step) × (works_to ws l.n l.self.turn l.b l.n ≡ l.sum + works_to ws l.n l.at l.b (l.n - l._step))
