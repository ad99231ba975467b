use Rattle.runs.specs.Wirings.{net_in}
use Rattle.runs.proofs.Marks.{rest_vacant}
use Rattle.runs.proofs.standing.Standing.initial.Goals as goal

pub returns-clause-vacant : goal.returns-clause-vacant
returns-clause-vacant c = c.put_back.ensures.vacant (rest_vacant (net_in c.args.wires.now))
