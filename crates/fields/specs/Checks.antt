-- Checks in order: the first that fails gives the refusal. Assumes nothing.
use Rattle.std.specs.Prelude.{Bool, cond, Ok, Err, Result}

-- go on with `r` where the test holds, else refuse
abbrev pub check : {A E : Type 0} → Bool → E → Result A E → Result A E
check b e r = cond b r (Err e)

-- go on with the value
abbrev pub next : {A B E : Type 0} → Result A E → (A → Result B E) → Result B E
next (Ok a) f = f a
next (Err e) f = Err e
