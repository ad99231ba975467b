use Rattle.std.proofs.Common.{length, arith}
use Rattle.policy.specs.Works.{works_of, lefts_of}
use Rattle.policy.specs.Rounds.{present, all_limit}
use Rattle.policy.proofs.Rings.{table}
use Rattle.policy.specs.Rings.{under as rows_under}
use Rattle.policy.specs.Sums.{round_other}
use Rattle.policy.proofs.ring.RingPolicy.due.Goals as goal

pub overflow_add-result : goal.overflow_add-result
overflow_add-result c =
    let p = c.args.self.now in
    let n = (length p.rows.list.items) in
    let ws = (works_of p.rows.list.items) in
    let there = present n ws (lefts_of p.rows.list.items) p.turn p.busy (table p) c.args.a (omega (arith, c.left-left.ensures)) in
    omega (
      arith,
      c.left.ensures,
      c.round-2.ensures,
      rows_under p.rows p.turn,
      all_limit n ws (lefts_of p.rows.list.items) p.turn p.busy (table p),
      round_other ws n p.turn c.args.a (omega arith) there c.if-a-self.false,
    )
