-- What stands in a buffer after a field is written into it. Assumes nothing.
use Rattle.std.specs.Prelude.{◌≡◌, ℕ, ◌+◌, ◌<◌, ◌≤◌, List, ◌++◌, length, take, drop, Ok, Err, Result}
use Rattle.fields.specs.declared.fault.Fault.{Fault}
use Rattle.fields.specs.declared.fault.Fault.TheVariants.{Small}
use Rattle.fields.specs.declared.writing.Writer.{Writer}

-- `w` stands from `at` on where the buffer held `xs`, and all else is as it was
abbrev pub Placed : ℕ → List ℕ → List ℕ → List ℕ → Type 0
Placed at w xs ys = ys ≡ take at xs ++ (w ++ drop (at + length w) xs)

-- `w` stands from the writer's place on, in a buffer as long, and the next field goes after it
pub record Puts (w : List ℕ) (old new : Writer) : Type 0 where
  pub after : new.at ≡ old.at + length w
  pub long : length new.buffer.now ≡ length old.buffer.now
  pub placed : Placed old.at w old.buffer.now new.buffer.now

-- `w` written at the writer's place; or it does not fit, and buffer and place are as they were
abbrev pub PutIs : List ℕ → Writer → Writer → Result (Unit {0}) Fault → Type 0
PutIs w old new (Ok u) = Puts w old new × (new.at ≤ length old.buffer.now)
PutIs w old new (Err e) =
    (e ≡ Small) × (length old.buffer.now < old.at + length w) × (new.buffer.now ≡ old.buffer.now) × (new.at ≡ old.at)
