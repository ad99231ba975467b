use Rattle.std.proofs.Common.{ℕ, ◌<◌, ◌≤◌, Some, None, ap, ⊎_elim, arith, rules}
use Rattle.std.proofs.lemmas.Bool.{cases_lt}
use Rattle.std.proofs.lemmas.Iterator.{first_from_Range}
use borrow.Author.Tests.{tests}
use Rattle.policy.specs.Wheel.{wide}
use Rattle.policy.specs.Wheels.{wide_zero}
use Rattle.policy.proofs.slice.Slice.check.Goals as goal

pub returns-in-Some : goal.returns-in-Some
returns-in-Some g c =
    let l : ℕ → ℕ = λ a. wide c.args.period c.args.slots ((g.P.Policy.view c.args.below.now).promise a) in
    let first = first_from_Range _ _ _ (Some c.in-Some.a) (λ a. 65535 < l a) (λ a. l a ≤ 65535) c.in-Some.ensures.ran (λ x q k. search (rules, tests)) (λ x q k. search (rules, tests)) in
    record { one = omega arith; within = omega arith; present = omega (arith, first.1); long = first.2; lowest = λ b h. first.3 b (omega arith) h }

pub returns-in-None : goal.returns-in-None
returns-in-None g c =
    let v = g.P.Policy.view c.args.below.now in
    let l : ℕ → ℕ = λ a. wide c.args.period c.args.slots (v.promise a) in
    let first = first_from_Range _ _ _ None (λ a. 65535 < l a) (λ a. l a ≤ 65535) c.in-None.ensures.ran (λ x q k. search (rules, tests)) (λ x q k. search (rules, tests)) in
    record {
      one = omega arith;
      within = omega arith;
      fits = λ a.
          ⊎_elim
          (λ h. first a (omega arith) (omega arith))
          (λ h. omega (arith, ap (wide c.args.period c.args.slots) ((g.met.P.Policy.sound c.args.below.now).absent a h), wide_zero c.args.period c.args.slots (omega arith)))
          (cases_lt a v.number);
    }
