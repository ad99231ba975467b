-- The actors and channels that a run is of, as a net. Assumes nothing.
use Rattle.model.specs.Net.{Net}
use Rattle.runs.specs.declared.wires.Wires.{Wires}
use Rattle.runs.specs.Nets.{net_of}

abbrev pub net_in : Wires → Net
net_in w = net_of w.actors w.channels.now
