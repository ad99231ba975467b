-- What stands in a run, as the model has it, beside its graph and its times. Assumes nothing.
use Rattle.model.specs.Net.{State}
use Rattle.runs.specs.declared.run.Run.{Run}
use Rattle.runs.specs.Standings.{state_of}
pub use Rattle.runs.specs.Nets.{channel_at, net_of, net, at, times_of, reps_of, taken}

abbrev pub state : Run → State
state r = state_of r.standing
