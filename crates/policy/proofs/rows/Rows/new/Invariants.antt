use Rattle.std.proofs.Common.{◌≡◌, map, take}
use Rattle.policy.specs.Works.{Workable, fresh}
use Rattle.policy.proofs.rows.Rows.new.Given as goal

abbrev pub invariant-loop-work : goal.invariant-loop-work
invariant-loop-work l = Workable l.works × (l.list.items ≡ map fresh (take l.work-index l.works))
