-- What holds of each place of a list after a write.
use Rattle.std.proofs.Common.{◌≡◌, ℕ, ◌<◌, ◌≢◌, List, length, get_or, set, ⊎_elim, get_or-set_other, get_or-set_same}
use Rattle.std.proofs.lemmas.Bool.{cases_eq}

pub after_set : {X : Type 0} (P : ℕ → X → Type 0) (xs : List X) (a : ℕ) (v d : X) → a < length xs → P a v
    → ((b : ℕ) → b ≢ a → P b (get_or xs b d)) → (b : ℕ) → P b (get_or (set xs a v) b d)
after_set P xs a v d h here f b =
    ⊎_elim (λ (e : b ≡ a). rw (e, get_or-set_same xs a v d h) here) (λ (ne : b ≢ a). rw get_or-set_other (f b ne)) (cases_eq b a)
