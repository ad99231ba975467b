use Rattle.leaps.proofs.Plans.{Waking}
use Rattle.leaps.proofs.planning.wakes.Given as goal

abbrev pub invariant-loop-a : goal.invariant-loop-a
invariant-loop-a l = Waking l.a 0 l.channels l.row-items

abbrev pub invariant-loop-channel : goal.invariant-loop-channel
invariant-loop-channel l = Waking 16 l.channel-index l.channels l.wakes
