use Rattle.std.proofs.Common.{sym, ap, ◌∙◌, subst, arith}
use Rattle.policy.specs.Wheel.{wait, Until}
use Rattle.policy.specs.Waits.{wait_wide, wait_until}
use Rattle.policy.proofs.slice.SlicePolicy.due.Goals as goal

pub overflow_cast-result : goal.overflow_cast-result
overflow_cast-result g c =
    let s = c.args.self.now in
    let v = g.P.Policy.view s.below in
    let known = (g.met.P.Policy.sound s.below).due_promise c.args.a in
    omega (arith, c.awaited.ensures, s.fits c.args.a, wait_wide s.period s.slots s.wheel s.one s.within s.on c.due.result (v.promise c.args.a) (omega (arith, c.due.ensures)))

pub returns-clause-until : goal.returns-clause-until
returns-clause-until g c =
    let s = c.args.self.now in
    let d = (g.P.Policy.view s.below).due c.args.a in
    subst (Until s.period s.slots s.wheel d) (sym (c.awaited.ensures ∙ ap (wait s.period s.slots s.wheel) c.due.ensures)) (wait_until s.period s.slots s.one s.within s.wheel d s.on)
