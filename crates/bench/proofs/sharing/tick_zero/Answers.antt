use Rattle.std.proofs.Common.{rules}
use Rattle.runs.specs.Seen.{at, state}
use Rattle.bench.proofs.Sharings.{begins_done, begun_whole, zeros}
use Rattle.bench.proofs.sharing.tick_zero.Goals as goal

pub returns-clause-begins : goal.returns-clause-begins
returns-clause-begins g c = search (rules, begins_done, zeros)

pub returns-clause-whole : goal.returns-clause-whole
returns-clause-whole g c =
    let run = c.args.run.now in
    begun_whole g.P.Policy run.graph.now (at run.times) c.requires.timed (state run) c.requires.started
