use Rattle.runs.specs.Seen.{net, times_of}
use Rattle.runs.proofs.Graphs.{graph_timed}
use Rattle.rates.proofs.Agreements.{promised_timed}
use Rattle.rates.proofs.Graphs.{run_rated}
use Rattle.rates.proofs.promised.promised_rate.Goals as goal

pub returns : goal.returns
returns g c =
    let gr = c.args.graph.now in
    let p = c.args.policy.now in
    let agreed = c.in_default.ensures in
    let timed = promised_timed (net gr) (times_of gr) (g.P.Policy.view p) (graph_timed gr) (g.met.P.Policy.sound p) agreed in
    record {
      rated = λ _. run_rated gr c.promises.ensures timed c.rate_with.ensures;
      refused = λ a d. absurd (d.differs (agreed a));
    }
