use Rattle.std.proofs.Common.{ℕ, sym, subst}
use Rattle.policy.specs.Runs.{EndsWithin}
use Rattle.policy.proofs.Windows.{ends_within}
use Rattle.policy.proofs.ending.window.Goals as goal

pub returns-clause-ends : goal.returns-clause-ends
returns-clause-ends g c =
    let m = g.P.Policy in
    let p = c.args.policy.now in
    let a = c.args.a in
    let met = g.met.P.Policy in
    subst (λ (x : ℕ). EndsWithin m p a x c.due.result) (sym c.left.ensures)
    (subst (λ (x : ℕ). EndsWithin m p a ((m.view p).left a) x) (sym c.due.ensures) (ends_within m met.sound met.ticked met.laid a p))
