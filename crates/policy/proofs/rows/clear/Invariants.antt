use Rattle.std.proofs.Common.{◌≡◌, ◌++◌, map, take, drop}
use Rattle.policy.specs.Works.{emptied}
use Rattle.policy.proofs.rows.clear.Given as goal

abbrev pub invariant-loop-row : goal.invariant-loop-row
invariant-loop-row l = l.rows ≡ map emptied (take l.row-index l.initial.rows) ++ drop l.row-index l.initial.rows
