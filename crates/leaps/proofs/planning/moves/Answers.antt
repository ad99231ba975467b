use Rattle.std.proofs.Common.{refl}
use Rattle.leaps.proofs.Plans.{moves_none}
use Rattle.leaps.proofs.planning.moves.Goals as goal

pub loop-c-init : goal.loop-c-init
loop-c-init c = (refl, moves_none c.args.end c.args.channels.now)
