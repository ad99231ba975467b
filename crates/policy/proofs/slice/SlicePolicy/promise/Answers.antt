use Rattle.std.proofs.Common.{sym, ap, ◌∙◌, subst}
use Rattle.policy.specs.Wheel.{wide, Longest}
use Rattle.policy.specs.Waits.{wide_longest}
use Rattle.policy.proofs.slice.SlicePolicy.promise.Goals as goal

pub returns-clause-longest : goal.returns-clause-longest
returns-clause-longest g c =
    let s = c.args.self.now in
    let d = (g.P.Policy.view s.below).promise c.args.a in
    subst (Longest s.period s.slots d) (sym (c.widened.ensures ∙ ap (wide s.period s.slots) c.promise.ensures)) (wide_longest s.period s.slots s.one s.within d)
