use Rattle.std.proofs.Common.{subst, sym}
use Rattle.policy.specs.Works.{emptied, RowsCleared}
use Rattle.policy.proofs.Writes.{written, few_written, fit_written, fit_emptied, map_emptied}
use Rattle.policy.proofs.rows.Rows.clear.Goals as goal

pub invariant_of-self : goal.invariant_of-self
invariant_of-self c =
    let p = c.args.self.now in
    record { few = few_written p emptied fit_emptied _ _ c.as_mut_slice.ensures.value c.clear.ensures; fit = fit_written p emptied fit_emptied _ _ c.as_mut_slice.ensures.value c.clear.ensures }

pub returns : goal.returns
returns c =
    let p = c.args.self.now in
    subst (RowsCleared p.list.items) (sym (written p emptied fit_emptied _ _ c.as_mut_slice.ensures.value c.clear.ensures)) (map_emptied p.list.items)
