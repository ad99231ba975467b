use Rattle.std.proofs.Common.{ap₂, rules}
use Rattle.runs.specs.Seen.{net, state}
use Rattle.rates.proofs.Listed.{is_listed, made}
use Rattle.rates.proofs.sample.SampleFromRefRun.from.Goals as goal

pub returns : goal.returns
returns c =
    let run = c.args.run.now in
    let n = net run.graph.now in
    let tokens = is_listed 32 n.channels (state run).tokens c.from_fn.result c.from_fn.ensures.items.long
    (made _ _ _ (λ i y q k. search rules) c.from_fn.result 32 c.from_fn.ensures.items) (λ i past. (run.vacant.0 i past).0) in
    let left = is_listed 16 n.actors (state run).left c.from_fn-2.result c.from_fn-2.ensures.items.long
    (made _ _ _ (λ i y q k. search rules) c.from_fn-2.result 16 c.from_fn-2.ensures.items) (λ i past. (run.vacant.1 i past).0) in
    rw c.tick.ensures (ap₂ (λ x y. record { tokens = x; left = y; tick = run.tick }) tokens left)
