-- How channels come to be moves and marks, one by one. Assumes nothing.
use Rattle.std.proofs.Common.{◌≡◌, ℕ, ◌<◌, Bool, None, List, [], length, replicate, get_or, ap, arith}
use lib.ListN.{get_or-replicate}
use Rattle.graph.specs.declared.channel.Channel.{Channel}
use Rattle.leaps.specs.declared.store.Store.{Store}
use Rattle.leaps.specs.declared.planning.End.{End}
use Rattle.leaps.specs.Plans.{MovesOf, Wakes}

pub moves_none : (e : End) (cs : List Channel) → MovesOf 0 e cs (replicate 64 (record { owner = None; rate = 0 }))
moves_none e cs = record {
  near = λ c lt. absurd (omega arith);
  far = λ c lt. absurd (omega arith);
  only = λ k lt a own. cc (ap (λ (s : Store). s.owner) (get_or-replicate {A = Store} 64 k (record { owner = None; rate = 0 }) (record { owner = None; rate = 0 }) lt));
}

-- rows of marks of the actors below k and the channels below i, 16 in each of 16
pub record Waking (k i : ℕ) (cs : List Channel) (ws : List (List Bool)) : Type 0 where
  pub count : length ws ≡ 16
  pub rows : (a : ℕ) → a < 16 → length (get_or ws a []) ≡ 16
  pub marks : Wakes k i cs ws
