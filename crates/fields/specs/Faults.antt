-- Number and place of a fault. Assumes nothing.
use Rattle.std.specs.Prelude.{ℕ}
use Rattle.fields.specs.declared.fault.Fault.{Fault}
use Rattle.fields.specs.declared.fault.Fault.TheVariants.{Ends, Tag, Length, More, Small}

abbrev pub number_of : Fault → ℕ
number_of (Ends n) = 1
number_of (Tag n) = 2
number_of (Length n) = 3
number_of (More n) = 4
number_of Small = 20

abbrev pub place_of : Fault → ℕ
place_of (Ends n) = n
place_of (Tag n) = n
place_of (Length n) = n
place_of (More n) = n
place_of Small = 0
