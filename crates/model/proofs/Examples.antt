-- The runs on paper, by computing. Assumes nothing.
use Rattle.std.proofs.Common.{ℕ, zero, suc, ◌<◌, [], ◌∷◌, refl, arith}
use Rattle.model.specs.Rate.{says, rated, rate_of}
use Rattle.model.specs.Meaning.{Joined, first, along, Accepted}
use Rattle.model.specs.Examples.{table, chain, WorkedRuns}

counts : Accepted (chain 2 3 4) (table (1 ∷ 2 ∷ [])) (table (3 ∷ 2 ∷ []))
counts = record {
  sound = record {
    source_in = λ c hc. omega arith;
    dest_in = λ c hc. omega arith;
    p_pos = λ c hc. omega arith;
    q_pos = λ c hc. omega arith;
    fits = λ c hc. omega arith;
  };
  timed = times;
  some = omega arith;
  joined = joins;
  balances = λ c hc. refl;
  counted = omega arith;
}
  where
    times : (a : ℕ) → a < 2 → 0 < table (1 ∷ 2 ∷ []) a
    times zero ha = omega arith
    times (suc zero) ha = omega arith
    times (suc (suc a)) ha = absurd (omega arith)

    joins : (a : ℕ) → a < 2 → ∥ Joined (chain 2 3 4) a ∥₁
    joins zero ha = ∣ first ∣₁
    joins (suc zero) ha = ∣ along 0 (omega arith) first ∣₁
    joins (suc (suc a)) ha = absurd (omega arith)

pub worked_runs : WorkedRuns
unfolding says rated rate_of
worked_runs = record {
  one = refl;
  chain_1 = refl;
  chain_2 = refl;
  chain_4_counts = counts;
  chain_4 = refl;
  chain_3 = refl;
  self-1 = refl;
  self-2 = refl;
  rows = refl;
  no_rows = refl;
  no_rows_needed = refl;
  last_tick = refl;
  at_last_tick = refl;
}
