-- What a fault tells: its layer, its number and its place.
use Rattle.std.specs.Prelude.{ℕ, List, codes}
use Rattle.policy.specs.declared.fault.Fault.{Fault}
use Rattle.policy.specs.declared.fault.Fault.TheVariants.{Crowd, Limits, Promise}

abbrev pub layer_of : Fault → List ℕ
layer_of Crowd = codes "policy"
layer_of (Limits a) = codes "policy"
layer_of (Promise a) = codes "policy"

abbrev pub number_of : Fault → ℕ
number_of Crowd = 13
number_of (Limits a) = 14
number_of (Promise a) = 15

abbrev pub place_of : Fault → ℕ
place_of Crowd = 0
place_of (Limits a) = a
place_of (Promise a) = a
