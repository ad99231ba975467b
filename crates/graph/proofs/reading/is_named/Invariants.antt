use Rattle.std.proofs.Common.{◌≡◌, false, drop}
use Rattle.graph.specs.Rules.{formed}
use Rattle.graph.proofs.reading.is_named.Given as goal

abbrev pub invariant-loop-b : goal.invariant-loop-b
invariant-loop-b l = formed l.over (drop l.b-index l.name) ≡ formed false l.name
