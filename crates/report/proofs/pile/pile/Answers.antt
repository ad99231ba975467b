use Rattle.std.proofs.Common.{ap, rules}
use Rattle.std.proofs.lemmas.Result.{err_from_is_err_and}
use Rattle.report.specs.declared.fault.Fault.TheVariants.{Policy}
use Rattle.report.proofs.Piles.{too_wide, piled}
use Rattle.report.proofs.pile.pile.Goals as goal

pub returns-in_err-two_in_five : goal.returns-in_err-two_in_five
returns-in_err-two_in_five c =
    let p = err_from_is_err_and c.from_residual.result c.from_residual.ensures.1 in
    let w =
    too_wide c.args.graph.now c.times-works.result _ c.times-works.ensures (search rules) (search rules) c.new-ring.result c.new-ring.ensures.made
    _ c.in_err-two_in_five.ensures in
    rw (p.1, p.2) (ap Policy w.0, w.1)

pub returns : goal.returns
returns c =
    piled c.args.graph.now c.times-works.result _ c.times-works.ensures (search rules) (search rules) c.new-ring.result c.new-ring.ensures.made
    c.in_ok-two_in_five.field-0 c.in_ok-two_in_five.ensures
