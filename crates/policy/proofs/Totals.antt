-- The works of the first actors together, as a sum over their rows. Assumes nothing.
use Rattle.std.proofs.Common.{◌≡◌, ℕ, zero, suc, ◌≤◌, ◌<◌, ◌^◌, List, [], ◌∷◌, length, take, get_or, sum, sym, ap, ◌∙◌, refl, add-one, arith}
use Rattle.std.proofs.lemmas.List.{take_more, take-map, length-map}
use Rattle.std.proofs.lemmas.List.Sums.{sum_by-append}
use Rattle.policy.specs.declared.rows.Row.{Row}
use Rattle.policy.specs.declared.rows.Rows.{Rows}
use Rattle.policy.specs.Works.{works_of}
use Rattle.policy.specs.Turns.{total}
use Rattle.policy.specs.Sums.{total_limit}
use Rattle.policy.specs.Rings.{most}

sum_total : (ws : List ℕ) (k : ℕ) → k ≤ length ws → sum (take k ws) ≡ total ws k
sum_total ws zero h = refl
sum_total ws (suc k) h =
    let more = ap sum (take_more ws k 0 (omega arith)) ∙ sum_by-append (λ (x : ℕ). x) (take k ws) (get_or ws k 0 ∷ []) in
    omega (arith, sum_total ws k (omega arith), more, ap (λ j. sum (take j ws)) (add-one k))

pub sum_works : (rs : List Row) (k : ℕ) → k ≤ length rs → sum (works_of (take k rs)) ≡ total (works_of rs) k
sum_works rs k h = ap sum (sym (take-map (λ (r : Row). r.work) k rs)) ∙ sum_total (works_of rs) k (omega (arith, length-map rs (λ (r : Row). r.work)))

pub total_fits : (p : Rows) (k : ℕ) → k ≤ length p.list.items → sum (works_of (take k p.list.items)) < 2 ^ 16
total_fits p k h = omega (arith, sum_works p.list.items k h, total_limit (works_of p.list.items) (most p) k, p.few)
