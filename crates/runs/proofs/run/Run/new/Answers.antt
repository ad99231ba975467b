use Rattle.runs.specs.Nets.{at}
use Rattle.runs.specs.Standings.{state_of}
use Rattle.runs.proofs.Ticks.{first}
use Rattle.runs.proofs.run.Run.new.Goals as goal

pub returns-clause-after : goal.returns-clause-after
returns-clause-after c =
    let w = c.of-wires.result in
    rw c.of-wires.ensures.channels at (rw c.of-wires.ensures.actors at (
    first w.actors w.channels.now w.fitting (at c.args.times) (state_of c.initial-standing.result) (state_of c.start_ready.new.self)
    c.initial-standing.ensures.begins c.start_ready.ensures.after
    ))
