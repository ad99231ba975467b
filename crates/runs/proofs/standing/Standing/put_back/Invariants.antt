use Rattle.std.proofs.Common.{◌≡◌, ℕ, ◌-◌, ◌<◌, ◌≤◌, length, get_or}
use Rattle.runs.specs.Nets.{channel_at}
use Rattle.runs.specs.Standings.{none}
use Rattle.runs.proofs.standing.Standing.put_back.Given as goal

abbrev pub invariant-loop-c : goal.invariant-loop-c
invariant-loop-c l =
    (length l.self.held ≡ 32)
    × ((c : ℕ) → c < l.c → (get_or l.self.held c none).tokens ≡ (channel_at l.channels c).tokens)
    × ((c : ℕ) → c < l.c → (get_or l.self.held c none).free ≡ (channel_at l.channels c).capacity - (channel_at l.channels c).tokens)
    × ((c : ℕ) → l.c ≤ c → get_or l.self.held c none ≡ get_or l.initial.self.held c none)
    × (l.self.doing ≡ l.initial.self.doing)
