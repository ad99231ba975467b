use Rattle.std.proofs.Common.{◌≡◌, length, arith}
use Rattle.leaps.proofs.Gathers.{gathered_none, gathered_above, gathered_more, gathered_room}
use Rattle.leaps.proofs.moves.Moves.of.Goals as goal
use Rattle.leaps.proofs.moves.Moves.of.Goals.{in-Some+then-a-lt16, in-Some+else-a-lt16, in_default}

pub push-requires : goal.push-requires
push-requires c = gathered_room _ _ _ c.loop-e.invariant c.in-Some.a c.if-a-lt16.true _ c.loop-e-test.true

pub loop-e-preserved : goal.loop-e-preserved
loop-e-preserved c = elim c.match-store.branch [
  | in-Some+then-a-lt16 w ↦ rw w.lists-is (gathered_more _ _ _ c.loop-e.invariant w.in-Some.a w.if-a-lt16.true _ w.in-Some.is _ w.push.ensures)
  | in-Some+else-a-lt16 w ↦ rw w.lists-is (gathered_above _ _ _ c.loop-e.invariant w.in-Some.a w.in-Some.is w.if-a-lt16.false)
  | in_default w ↦ rw w.lists-is (gathered_none _ _ _ c.loop-e.invariant w.in_default.is)
]

pub invariant_of-result : goal.invariant_of-result
invariant_of-result c = let is : length c.args.stores ≡ c.loop-e.e = omega arith in record { listed = rw is c.loop-e.invariant.are }
