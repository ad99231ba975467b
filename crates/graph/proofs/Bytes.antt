-- Lists of known length.
use Rattle.std.proofs.Common.{◌≡◌, ℕ, List, map, length, get_or, refl}
use Rattle.std.specs.List.{range_with_len}
use Rattle.std.proofs.lemmas.List.FromFn.{fill_by_all}

-- a list by its places
pub listed : (v : List ℕ) (n : ℕ) → length v ≡ n → v ≡ map (λ (k : ℕ). get_or v k 0) (range_with_len 0 n)
listed v n e = fill_by_all (λ (k : ℕ). get_or v k 0) v n 0 e (λ k _. refl)
