use Rattle.std.proofs.Common.{⊎_elim}
use Rattle.std.proofs.lemmas.Bool.{cases_lt}
use Rattle.model.specs.Likeness.{Matches}
use Rattle.model.specs.Net.{run}
use Rattle.runs.specs.Standings.{state_of}
use Rattle.runs.specs.Nets.{net_of, at}
use Rattle.runs.proofs.Ticks.{first}
use Rattle.runs.proofs.steps.reset.Goals as goal

begins : (c : goal.After-start_ready) → Matches (net_of c.args.actors c.args.channels.now) (state_of c.start_ready.new.self) (run (net_of c.args.actors c.args.channels.now) (at c.args.times.now) 0)
begins c = first c.args.actors c.args.channels.now c.requires (at c.args.times.now) (state_of c.put_back.new.self) (state_of c.start_ready.new.self)
    c.put_back.ensures.begins c.start_ready.ensures.after

pub returns-clause-after : goal.returns-clause-after
returns-clause-after c = begins c

pub returns-clause-counts : goal.returns-clause-counts
returns-clause-counts c v a =
    ⊎_elim (λ lt. (begins c).ended a lt) (λ ge. ((c.start_ready.ensures.vacant (c.put_back.ensures.vacant v)).1 a ge).1) (cases_lt a c.args.actors)
