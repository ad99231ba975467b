use Rattle.std.proofs.Common.{◌≡◌, ◌-◌, ap, arith}
use Rattle.policy.specs.Works.{works_of}
use Rattle.policy.specs.Rings.{most}
use Rattle.policy.specs.Turns.{works_to}
use Rattle.policy.proofs.Steps.{works_to_last, works_to_passed}
use Rattle.policy.proofs.ring.Ring.round.Goals as goal

pub loop-step-init : goal.loop-step-init
loop-step-init c =
    let r = c.args.self.now in
    let e : c.number-n.result ≡ c.number-n.result - 0 = omega arith in (
      c.number-n.ensures,
      (λ h. omega (arith, c.number-n.ensures, r.on)),
      omega arith,
      omega (arith, ap (works_to (works_of r.rows.list.items) c.number-n.result r.turn c.args.b) e),
    )

pub after-at-requires : goal.after-at-requires
after-at-requires c = c.loop-step.invariant.1 (omega arith)

pub overflow_add-sum : goal.overflow_add-sum
overflow_add-sum c =
    let r = c.args.self.now.rows in
    omega (arith, most r c.after-at.result, r.few, c.work-sum.ensures, c.number-n.ensures, c.loop-step.invariant.2)

pub returns-then-at-b : goal.returns-then-at-b
returns-then-at-b c =
    let r = c.args.self.now in
    let last = works_to_last (works_of r.rows.list.items) c.number-n.result c.loop-step.at c.args.b c.loop-step._step c.loop-step-test.true c.after-at.result c.after-at.ensures.0 c.if-at-b.true in
    omega (arith, last, c.loop-step.invariant.3, c.work-sum.ensures, ap (λ n. works_to (works_of r.rows.list.items) n r.turn c.args.b n) c.number-n.ensures)

pub loop-step-preserved : goal.loop-step-preserved
loop-step-preserved c =
    let r = c.args.self.now in
    let passed = works_to_passed (works_of r.rows.list.items) c.number-n.result c.loop-step.at c.args.b c.loop-step._step c.loop-step-test.true c.after-at.result c.after-at.ensures.0 c.if-at-b.false in (
      c.number-n.ensures,
      (λ h. c.after-at.ensures.1),
      omega (arith, most r.rows c.after-at.result, c.work-sum.ensures, c.loop-step.invariant.2),
      omega (arith, passed, c.loop-step.invariant.3, c.work-sum.ensures),
    )

pub returns : goal.returns
returns c =
    let r = c.args.self.now in
    let e : c.number-n.result - c.loop-step._step ≡ 0 = omega arith in
    omega (
      arith,
      c.loop-step.invariant.3,
      ap (works_to (works_of r.rows.list.items) c.number-n.result c.loop-step.at c.args.b) e,
      ap (λ n. works_to (works_of r.rows.list.items) n r.turn c.args.b n) c.number-n.ensures,
    )
