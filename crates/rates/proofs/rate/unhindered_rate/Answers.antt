use Rattle.runs.proofs.Graphs.{graph_timed}
use Rattle.rates.proofs.Graphs.{run_rated}
use Rattle.rates.proofs.Fastest.{graph_unbeaten}
use Rattle.rates.proofs.rate.unhindered_rate.Goals as goal

pub returns : goal.returns
returns c =
    let g = c.args.graph.now in
    let r = run_rated g c.times.ensures (graph_timed g) c.rate_with.ensures in
    record {
      value = r.value.value;
      after = r.value.after;
      rising = r.value.rising;
      means = r.means;
      fastest = graph_unbeaten g;
    }
