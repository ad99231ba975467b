-- Layer, number and place of a fault. Assumes nothing.
use Rattle.std.specs.Prelude.{ℕ, List, codes}
use Rattle.rates.specs.declared.fault.Fault.{Fault}
use Rattle.rates.specs.declared.fault.Fault.TheVariants.{Works, NoRow, LastTick, Absent}

abbrev pub layer_of : Fault → List ℕ
layer_of f = codes "bench"

abbrev pub number_of : Fault → ℕ
number_of (Works a) = 16
number_of NoRow = 17
number_of LastTick = 18
number_of Absent = 19

abbrev pub place_of : Fault → ℕ
place_of (Works a) = a
place_of NoRow = 0
place_of LastTick = 0
place_of Absent = 0
