use Rattle.std.proofs.Common.{arith, rules}
use Rattle.std.proofs.lemmas.Iterator.{first_from_Range}
use Rattle.runs.specs.Seen.{net, times_of}
use Rattle.rates.specs.Agree.{Agree}
use Rattle.rates.proofs.Agreements.{lowest_of}
use Rattle.rates.proofs.agreement.lowest_differing.Goals as goal

pub returns : goal.returns
returns g c =
    let gr = c.args.graph.now in
    let v = g.P.Policy.view c.args.policy.now in
    let agree = Agree (net gr).actors (times_of gr) v in
    lowest_of gr v (g.met.P.Policy.sound c.args.policy.now) (omega arith) (omega arith) c.find.result
    (first_from_Range _ _ _ c.find.result (λ a. agree a → ⊥) agree c.find.ensures.ran (λ a q k. search rules) (λ a q k. search rules))
