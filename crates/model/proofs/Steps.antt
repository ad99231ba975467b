-- How the outcome of rate steps from tick to tick. Assumes nothing.
use Rattle.std.proofs.Common.{◌≡◌, ℕ, zero, suc, ◌+◌, ◌-◌, ◌<◌, ◌≤◌, List, [], ◌∷◌, ◌++◌, ap, add-one, arith}
use Rattle.model.specs.Net.{Net}
use Rattle.model.specs.Rate.{Answer, late, on, takes_row, answers, Outcome, says, led, rated, rate_of}

module _ (n : Net) (time : ℕ → ℕ) (rep room : ℕ) where
  -- by how many more ticks there are to the last
  module _ (t : ℕ) (taken : List ℕ) where
    on_by : ℕ → List ℕ → Outcome
    on_by more rows = rated n time rep room more (suc t) rows

    late_by : List ℕ → Outcome
    late_by rows = record { answer = late; taken = rows }

    pub rated_on : (more : ℕ) → says n time rep room t taken ≡ on → rated n time rep room (suc more) t taken ≡ rated n time rep room more (suc t) taken
    unfolding rated on_by
    rated_on more h = ap (λ v. led v t taken (on_by more)) h

    pub rated_takes_row : (more : ℕ) → says n time rep room t taken ≡ takes_row → rated n time rep room (suc more) t taken ≡ rated n time rep room more (suc t) (taken ++ t ∷ [])
    unfolding rated on_by
    rated_takes_row more h = ap (λ v. led v t taken (on_by more)) h

    pub rated_answers : (more : ℕ) (x : Answer) → says n time rep room t taken ≡ answers x → rated n time rep room more t taken ≡ record { answer = x; taken = taken }
    unfolding rated on_by late_by
    rated_answers zero x h = ap (λ v. led v t taken late_by) h
    rated_answers (suc more) x h = ap (λ v. led v t taken (on_by more)) h

    pub rated_last : says n time rep room t taken ≡ on → rated n time rep room 0 t taken ≡ record { answer = late; taken = taken }
    unfolding rated late_by
    rated_last h = ap (λ v. led v t taken late_by) h

    pub rated_last_row : says n time rep room t taken ≡ takes_row → rated n time rep room 0 t taken ≡ record { answer = late; taken = taken ++ t ∷ [] }
    unfolding rated late_by
    rated_last_row h = ap (λ v. led v t taken late_by) h

  -- the same of a loop that counts its ticks up to the last
  module _ (last : ℕ) where
    pub step_first : rate_of n time rep room last ≡ rated n time rep room (last - 0) 0 []
    unfolding rate_of
    step_first = let e : last - 0 ≡ last = omega arith in rw e

    module _ (t : ℕ) (taken : List ℕ) where
      module _ (lt : t < last) where
        one_less : last - t ≡ suc (last - (t + 1))
        one_less = omega arith

        pub step_on : says n time rep room t taken ≡ on → rated n time rep room (last - t) t taken ≡ rated n time rep room (last - (t + 1)) (t + 1) taken
        step_on h = rw (one_less, add-one) (rated_on t taken _ h)

        pub step_takes_row : says n time rep room t taken ≡ takes_row →
            rated n time rep room (last - t) t taken ≡ rated n time rep room (last - (t + 1)) (t + 1) (taken ++ t ∷ [])
        step_takes_row h = rw (one_less, add-one) (rated_takes_row t taken _ h)

      module _ (ge : last ≤ t) where
        none_left : last - t ≡ 0
        none_left = omega arith

        pub step_last : says n time rep room t taken ≡ on → rated n time rep room (last - t) t taken ≡ record { answer = late; taken = taken }
        step_last h = rw none_left (rated_last t taken h)

        pub step_last_row : says n time rep room t taken ≡ takes_row → rated n time rep room (last - t) t taken ≡ record { answer = late; taken = taken ++ t ∷ [] }
        step_last_row h = rw none_left (rated_last_row t taken h)
