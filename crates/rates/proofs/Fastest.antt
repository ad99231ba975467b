-- No schedule of a graph is faster than its unhindered run. Assumes nothing.
use Rattle.graph.specs.declared.graph.Graph.{Graph}
use Rattle.model.proofs.Schedules.{no_faster}
use Rattle.runs.specs.Seen.{net, times_of}
use Rattle.runs.proofs.Graphs.{graph_fitting, graph_timed}
use Rattle.rates.specs.Rates.{Unbeaten}

pub graph_unbeaten : (g : Graph) → Unbeaten g
graph_unbeaten g s ok a k ha has = no_faster (net g) (times_of g) s (graph_fitting g).sound (graph_timed g) ok a k ha has
