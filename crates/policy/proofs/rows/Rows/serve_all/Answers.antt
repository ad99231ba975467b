use Rattle.std.proofs.Common.{subst, sym}
use Rattle.policy.specs.Works.{worn, FreeTicks}
use Rattle.policy.proofs.Writes.{written, few_written, fit_written, fit_worn, map_worn}
use Rattle.policy.proofs.rows.Rows.serve_all.Goals as goal

pub invariant_of-self : goal.invariant_of-self
invariant_of-self c =
    let p = c.args.self.now in
    record { few = few_written p worn fit_worn _ _ c.as_mut_slice.ensures.value c.serve.ensures; fit = fit_written p worn fit_worn _ _ c.as_mut_slice.ensures.value c.serve.ensures }

pub returns : goal.returns
returns c =
    let p = c.args.self.now in
    subst (FreeTicks p.list.items) (sym (written p worn fit_worn _ _ c.as_mut_slice.ensures.value c.serve.ensures)) (map_worn p.list.items)
