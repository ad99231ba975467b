use Rattle.std.proofs.Common.{length, ap, arith}
use Rattle.fields.proofs.Placed.{puts_more}
use Rattle.fields.proofs.field.Field.write.Goals as goal

pub returns-clause-done : goal.returns-clause-done
returns-clause-done c =
    let frame = rw (c.frame.ensures, c.kind.ensures) at c.put.ensures.done in
    let value = rw c.bytes-value.ensures.value at c.put-2.ensures.done in
    let size = ap length c.bytes-value.ensures.value in
    (puts_more frame value (omega arith), omega arith)
