use Rattle.policy.proofs.Same.{same_slice}
use Rattle.policy.proofs.slice.SlicePolicy.lay.Goals as goal

pub returns-clause-refused : goal.returns-clause-refused
returns-clause-refused g c e = same_slice c.args.self.now _ _ _ c.lay.new.self _ (c.lay.ensures.refused e)
