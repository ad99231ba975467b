use Rattle.std.proofs.Common.{◌≡◌, ℕ, ltb, length, get_or}
use Rattle.model.specs.Net.{when}
use Rattle.graph.specs.Rules.{nobody}
use Rattle.runs.specs.Seen.{at}
use Rattle.runs.proofs.timing.times.Given as goal

abbrev pub invariant-loop-a : goal.invariant-loop-a
invariant-loop-a l = (length l.times ≡ 16) × ((k : ℕ) → at l.times k ≡ when (ltb k l.a) (get_or l.actors k nobody).time)
