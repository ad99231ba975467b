use Rattle.runs.specs.Standings.{state_of}
use Rattle.runs.specs.Nets.{at, taken}
use Rattle.runs.proofs.Ticks.{goes}
use Rattle.runs.proofs.steps.step.Goals as goal

pub returns-clause-after : goal.returns-clause-after
returns-clause-after c =
    let s = state_of c.args.standing.now in
    goes c.args.actors c.args.channels.now c.requires.fitting (at c.args.times.now) (taken s (at c.args.left.now)) s (state_of c.finish-done.new.self) (state_of c.start_ready.new.self)
    c.finish-done.ensures.after c.start_ready.ensures.after

pub returns-clause-within : goal.returns-clause-within
returns-clause-within c w = c.start_ready.ensures.within (c.finish-done.ensures.within w)
