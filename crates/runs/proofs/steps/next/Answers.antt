use Rattle.runs.specs.Standings.{state_of}
use Rattle.runs.proofs.Ticks.{next_follows}
use Rattle.runs.proofs.steps.next.Goals as goal

pub returns-clause-after : goal.returns-clause-after
returns-clause-after c = next_follows c.args.actors c.args.channels.now c.requires.fitting c.one_less-left.result c.args.times.now (state_of c.args.standing.now) (state_of c.step.new.standing)
    c.one_less-left.ensures.value c.step.ensures.after
