use Rattle.runs.proofs.run.Run.step.Goals as goal

pub returns-clause-after : goal.returns-clause-after
returns-clause-after c = rw c.channels.ensures at (rw c.actors.ensures at c.step-done.ensures.after)
