use Rattle.std.proofs.Common.{◌≡◌, take, sum, ap, ◌∙◌, arith}
use Rattle.policy.specs.Works.{works_of}
use Rattle.policy.proofs.Totals.{sum_works, total_fits}
use Rattle.policy.proofs.rows.Rows.total.Goals as goal

pub total-requires : goal.total-requires
total-requires c =
    let p = c.args.self.now in
    let is : c.deref.result.now ≡ p.list.items = cc in
    omega (arith, ap (λ rs. sum (works_of (take c.args.k rs))) is, total_fits p c.args.k c.requires)

pub returns : goal.returns
returns c =
    let p = c.args.self.now in
    let is : c.deref.result.now ≡ p.list.items = cc in
    c.total.ensures ∙ ap (λ rs. sum (works_of (take c.args.k rs))) is ∙ sum_works p.list.items c.args.k c.requires
