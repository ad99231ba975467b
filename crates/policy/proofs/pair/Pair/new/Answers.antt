use Rattle.std.proofs.Common.{refl}
use Rattle.policy.specs.Joins.{joined_made}
use Rattle.policy.proofs.pair.Pair.new.Goals as goal

pub returns : goal.returns
returns g c = record { value = (refl, refl); made = joined_made (g.A.Policy.view c.args.first) (g.B.Policy.view c.args.second) }
