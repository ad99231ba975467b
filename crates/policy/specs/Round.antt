-- Going round: the number after x of the numbers below n.
use Rattle.std.specs.Prelude.{ℕ, ◌+◌, cond, nat_lt}

abbrev pub after : ℕ → ℕ → ℕ
after n x = cond (nat_lt (x + 1) n) (x + 1) 0
