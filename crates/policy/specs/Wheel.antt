-- What a wheel of p positions makes of ticks, those under s being the ones that serve, and w the present one.
--     passed p s w t        how many of the next t positions are under s
--     tried p s w d t k     the first of the ticks t, t + 1, .. by which d positions under s have passed; k are tried
--     wait p s w d          the ticks until d positions under s have passed
--     wide p s d            the promise over a promise of d below
--     Until p s w d t       t is the first tick by which d positions under s have passed
--     Longest p s d l       l is the longest wait for up to d positions, wherever the wheel is, and is reached
use Rattle.std.specs.Prelude.{◌≡◌, ℕ, zero, suc, ◌+◌, ◌-◌, ◌*◌, ◌/◌, ◌<◌, ◌≤◌, cond, nat_le, nat_lt}
use Rattle.policy.specs.Round.{after}

abbrev pub passed : ℕ → ℕ → ℕ → ℕ → ℕ
passed p s w zero = 0
passed p s w (suc t) = cond (nat_lt w s) 1 0 + passed p s (after p w) t

abbrev pub tried : ℕ → ℕ → ℕ → ℕ → ℕ → ℕ → ℕ
tried p s w d t zero = t
tried p s w d t (suc k) = cond (nat_le d (passed p s w t)) t (tried p s w d (t + 1) k)

-- d turns of the wheel suffice
abbrev pub wait : ℕ → ℕ → ℕ → ℕ → ℕ
wait p s w d = tried p s w d 0 (p * d)

-- d and the p - s other positions as often as d / s, rounded up
abbrev pub wide : ℕ → ℕ → ℕ → ℕ
wide p s d = d + (p - s) * ((d + (s - 1)) / s)

pub record Until (p s w d t : ℕ) : Type 0 where
  pub enough : d ≤ passed p s w t
  pub first : (u : ℕ) → u < t → passed p s w u < d

pub record Longest (p s d l : ℕ) : Type 0 where
  pub bound : (w e : ℕ) → w < p → e ≤ d → wait p s w e ≤ l
  pub reached : (w : ℕ) × ((w < p) × (wait p s w d ≡ l))
