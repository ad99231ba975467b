use Rattle.std.proofs.Common.{arith}
use Rattle.policy.specs.Works.{emptied}
use Rattle.policy.proofs.Writes.{over_row}
use Rattle.policy.proofs.rows.clear.Goals as goal

pub loop-row-preserved : goal.loop-row-preserved
loop-row-preserved c = over_row emptied c.args.rows.now c.loop-row.rows c.loop-row.row-index c.loop-row-test.true (omega arith) c.loop-row.invariant
