use Rattle.std.proofs.Common.{sym, ◌∙◌, arith}
use Rattle.policy.specs.Wheels.{closed_in, closed_out}
use Rattle.policy.specs.Waits.{wait_closed}
use Rattle.policy.proofs.slice.awaited.Goals as goal

pub returns-then-w-s : goal.returns-then-w-s
returns-then-w-s c =
    let p = c.args.period in
    let s = c.args.slots in
    let w = c.args.wheel in
    let d = c.args.d in
    rw c.stretches.ensures (sym (wait_closed p s (omega arith) (omega arith) w d (omega arith) ∙ closed_in p s w d (omega arith) (omega arith)))

pub returns-else-w-s : goal.returns-else-w-s
returns-else-w-s c =
    let p = c.args.period in
    let s = c.args.slots in
    let w = c.args.wheel in
    let d = c.args.d in
    rw c.stretches-else-w-s.ensures (sym (wait_closed p s (omega arith) (omega arith) w d (omega arith) ∙ closed_out p s w d (omega arith) (omega arith)))
