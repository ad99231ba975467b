-- Layer, number and place of a fault. Assumes nothing.
use Rattle.std.specs.Prelude.{ℕ, List, codes}
use Rattle.fields.specs.Faults.{number_of as number_below, place_of as place_below}
use Rattle.graph.specs.declared.fault.Fault.{Fault}
use Rattle.graph.specs.declared.fault.Fault.TheVariants.{Fields, Head, Name, Repeated, Time, End, Limit, Apart, Unbalanced}

abbrev pub layer_of : Fault → List ℕ
layer_of (Fields e) = codes "fields"
layer_of (Head n) = codes "graph"
layer_of (Name n) = codes "graph"
layer_of (Repeated n) = codes "graph"
layer_of (Time n) = codes "graph"
layer_of (End n) = codes "graph"
layer_of (Limit n) = codes "graph"
layer_of (Apart a) = codes "graph"
layer_of Unbalanced = codes "graph"

abbrev pub number_of : Fault → ℕ
number_of (Fields e) = number_below e
number_of (Head n) = 5
number_of (Name n) = 6
number_of (Repeated n) = 7
number_of (Time n) = 8
number_of (End n) = 9
number_of (Limit n) = 10
number_of (Apart a) = 11
number_of Unbalanced = 12

abbrev pub place_of : Fault → ℕ
place_of (Fields e) = place_below e
place_of (Head n) = n
place_of (Name n) = n
place_of (Repeated n) = n
place_of (Time n) = n
place_of (End n) = n
place_of (Limit n) = n
place_of (Apart a) = a
place_of Unbalanced = 0
