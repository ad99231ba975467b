-- Runs on paper, with what rate answers of each. Assumes nothing.
--
-- table       a list as a table, 0 past its end
-- alone       one actor, no channel
-- chain       A to B, with an out-rate, an in-rate and a capacity
-- self        one actor with a channel to itself, 1:1, one token, and a capacity
-- answer_of   what rate answers with 256 rows and 10,000,000 for the last tick
-- WorkedRuns  the answers
use Rattle.std.specs.Prelude.{◌≡◌, ℕ, List, [], ◌∷◌, slice_index}
use Rattle.model.specs.Net.{Net}
use Rattle.model.specs.Meaning.{Accepted}
use Rattle.model.specs.Rate.{Answer, standstill, repeats, no_row, late, rate_of}

abbrev pub table : List ℕ → ℕ → ℕ
table xs i = slice_index xs i

abbrev pub alone : Net
alone = record { actors = 1; channels = 0; source = λ c. 0; dest = λ c. 0; p = λ c. 1; q = λ c. 1; capacity = λ c. 1; initial = λ c. 0 }

abbrev pub chain : ℕ → ℕ → ℕ → Net
chain p q size = record { actors = 2; channels = 1; source = λ c. 0; dest = λ c. 1; p = λ c. p; q = λ c. q; capacity = λ c. size; initial = λ c. 0 }

abbrev pub self : ℕ → Net
self size = record { actors = 1; channels = 1; source = λ c. 0; dest = λ c. 0; p = λ c. 1; q = λ c. 1; capacity = λ c. size; initial = λ c. 1 }

abbrev pub answer_of : Net → List ℕ → ℕ → Answer
answer_of n times rep = (rate_of n (table times) rep 256 10_000_000).answer

pub record WorkedRuns : Type 0 where
  pub one : answer_of alone (2 ∷ []) 1 ≡ repeats 0 2 1
  pub chain_1 : answer_of (chain 1 1 1) (2 ∷ 3 ∷ []) 1 ≡ repeats 2 5 1
  pub chain_2 : answer_of (chain 1 1 2) (2 ∷ 3 ∷ []) 1 ≡ repeats 4 3 1
  pub chain_4_counts : Accepted (chain 2 3 4) (table (1 ∷ 2 ∷ [])) (table (3 ∷ 2 ∷ []))
  pub chain_4 : answer_of (chain 2 3 4) (1 ∷ 2 ∷ []) 3 ≡ repeats 5 7 1
  pub chain_3 : answer_of (chain 2 3 3) (1 ∷ 2 ∷ []) 3 ≡ standstill 1
  pub self-1 : answer_of (self 1) (2 ∷ []) 1 ≡ standstill 0
  pub self-2 : answer_of (self 2) (2 ∷ []) 1 ≡ repeats 0 2 1
  pub rows : (rate_of (chain 2 3 4) (table (1 ∷ 2 ∷ [])) 3 256 10_000_000).taken ≡ 0 ∷ 5 ∷ []
  pub no_rows : (rate_of alone (table (2 ∷ [])) 1 0 10_000_000).answer ≡ no_row
  pub no_rows_needed : (rate_of (self 1) (table (2 ∷ [])) 1 0 10_000_000).answer ≡ standstill 0
  pub last_tick : (rate_of alone (table (2 ∷ [])) 1 256 1).answer ≡ late
  pub at_last_tick : (rate_of alone (table (2 ∷ [])) 1 256 2).answer ≡ repeats 0 2 1
