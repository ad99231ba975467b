-- Layer, number and place of a fault, those of the layer that found it, and how it is printed. Assumes nothing.
use Rattle.std.specs.Prelude.{ℕ, List, ◌++◌, codes, decimal}
use Rattle.graph.specs.Faults.{layer_of as graph_layer, number_of as graph_number, place_of as graph_place}
use Rattle.policy.specs.Faults.{layer_of as policy_layer, number_of as policy_number, place_of as policy_place}
use Rattle.rates.specs.Faults.{layer_of as bench_layer, number_of as bench_number, place_of as bench_place}
use Rattle.report.specs.declared.fault.Fault.{Fault}
use Rattle.report.specs.declared.fault.Fault.TheVariants.{Graph, Policy, Bench}

abbrev pub layer_of : Fault → List ℕ
layer_of (Graph e) = graph_layer e
layer_of (Policy e) = policy_layer e
layer_of (Bench e) = bench_layer e

abbrev pub number_of : Fault → ℕ
number_of (Graph e) = graph_number e
number_of (Policy e) = policy_number e
number_of (Bench e) = bench_number e

abbrev pub place_of : Fault → ℕ
place_of (Graph e) = graph_place e
place_of (Policy e) = policy_place e
place_of (Bench e) = bench_place e

abbrev pub fault_text : Fault → List ℕ
fault_text f = layer_of f ++ (codes " " ++ (decimal (number_of f) ++ (codes " " ++ decimal (place_of f))))
