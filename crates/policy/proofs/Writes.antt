-- What the writes of rows leave. Assumes nothing.
use Rattle.std.proofs.Common.{◌≡◌, ℕ, ◌+◌, ◌-◌, ◌<◌, ◌≤◌, ◌≢◌, List, ◌++◌, map, take, drop, length, get_or, sym, ap, ◌∙◌, subst, arith}
use Rattle.std.specs.List.{All, refill}
use Rattle.std.proofs.Math.ListN.{set, get_or-map}
use Rattle.std.proofs.Math.Seq.{map-set_same}
use Rattle.std.proofs.lemmas.Simd.{map-map}
use Rattle.std.proofs.lemmas.List.{length-map, length-set, get_or-set_same, get_or-set_other, get_or_default}
use Rattle.std.proofs.lemmas.List.Edits.{map_over_more}
use Rattle.std.proofs.lemmas.List.Elements.{All-map}
use Rattle.arrayvec.proofs.ArrayVecLemmas.{items-with_items}
use Rattle.policy.specs.declared.rows.Row.{Row}
use Rattle.policy.specs.declared.rows.Rows.{Rows}
use Rattle.policy.specs.Works.{works_of, lefts_of, Workable, Fit, fresh, worn, emptied, RowsMade, FreeTicks, RowsCleared}

abbrev pub none : Row
none = record { work = 0; left = 0 }

-- the rows that are made for works
module _ (ws : List ℕ) (k : Workable ws) where
  pub made_fresh : RowsMade ws (map fresh ws)
  made_fresh = record {
    number = λ _. length-map ws fresh;
    works = λ _ a. ap (λ xs. get_or xs a 0) (map-map (λ (r : Row). r.work) fresh ws) ∙ get_or-map (λ (w : ℕ). w) ws a 0;
    refused = λ n. absurd (n k);
    idle = λ a. ap (λ xs. get_or xs a 0) (map-map (λ (r : Row). r.left) fresh ws) ∙ get_or-map (λ (w : ℕ). 0) ws a 0;
  }

  pub few_fresh : length (map fresh ws) ≤ 16
  few_fresh = omega (arith, length-map ws fresh, k.few)

  pub fit_fresh : All Fit (map fresh ws)
  fit_fresh = All-map Fit fresh ws (λ i d h. record {
    least = omega (arith, k.least i h, get_or_default ws i d 0 h);
    most = omega (arith, k.most i h, get_or_default ws i d 0 h);
    under = omega arith;
  })

-- a loop that writes each row
pub over_row : (f : Row → Row) (xs ys : List Row) (i : ℕ) → i < length xs → i < length ys → ys ≡ map f (take i xs) ++ drop i xs
    → set ys i (f (get_or ys i none)) ≡ map f (take (i + 1) xs) ++ drop (i + 1) xs
over_row f xs ys i h l e = map_over_more f xs ys i (get_or ys i none) h e (get_or_default ys i none _ l)

pub map_worn : (rs : List Row) → FreeTicks rs (map worn rs)
map_worn rs = record {
  number = length-map rs worn;
  works = map-map (λ (r : Row). r.work) worn rs;
  served = λ a. ap (λ ls. get_or ls a 0) (map-map (λ (r : Row). r.left) worn rs) ∙ get_or-map (λ (r : Row). r.left - 1) rs a none ∙ ap (λ l. l - 1) (sym (get_or-map (λ (r : Row). r.left) rs a none));
}

pub map_emptied : (rs : List Row) → RowsCleared rs (map emptied rs)
map_emptied rs = record {
  number = length-map rs emptied;
  works = map-map (λ (r : Row). r.work) emptied rs;
  none = λ a. ap (λ ls. get_or ls a 0) (map-map (λ (r : Row). r.left) emptied rs) ∙ get_or-map (λ (r : Row). 0) rs a none;
}

-- a row is written, its work kept
module _ (rs : List Row) (a : ℕ) (y : Row) where
  pub set_works : y.work ≡ (get_or rs a none).work → works_of (set rs a y) ≡ works_of rs
  set_works e = map-set_same (λ (r : Row). r.work) rs a y none e

  pub set_left : a < length rs → get_or (lefts_of (set rs a y)) a 0 ≡ y.left
  set_left h = get_or-map (λ (r : Row). r.left) (set rs a y) a none ∙ ap (λ (r : Row). r.left) (get_or-set_same rs a y none h)

  pub set_others : (b : ℕ) → (b ≢ a) → get_or (lefts_of (set rs a y)) b 0 ≡ get_or (lefts_of rs) b 0
  set_others b o = get_or-map (λ (r : Row). r.left) (set rs a y) b none ∙ ap (λ (r : Row). r.left) (get_or-set_other rs a b y none o) ∙ sym (get_or-map (λ (r : Row). r.left) rs b none)

pub fit_worn : (r : Row) → Fit r → Fit (worn r)
fit_worn r f = record { least = f.least; most = f.most; under = omega (arith, f.under) }

pub fit_emptied : (r : Row) → Fit r → Fit (emptied r)
fit_emptied r f = record { least = f.least; most = f.most; under = omega arith }

-- each row is written through the slice
module _ (p : Rows) (f : Row → Row) (keeps : (r : Row) → Fit r → Fit (f r)) (now ys : List Row) (v : now ≡ p.list.items) (e : ys ≡ map f now) where
  abbrev after : List Row
  after = refill (length p.list.items) p.list.items ys

  pub written : after ≡ map f p.list.items
  written = items-with_items p.list ys (ap length e ∙ length-map now f ∙ ap length v) ∙ e ∙ ap (map f) v

  pub few_written : length after ≤ 16
  few_written = omega (arith, ap length written, length-map p.list.items f, p.few)

  pub fit_written : All Fit after
  fit_written = subst (All Fit) (sym written) (All-map Fit f p.list.items (λ k d h. keeps _ (p.fit k d h)))

-- one row is written through the slice
pub one_written : (rs now : List Row) (a : ℕ) (f : Row → Row) → now ≡ rs → refill (length rs) rs (set now a (f (get_or now a none))) ≡ set rs a (f (get_or rs a none))
one_written rs now a f e =
    items-with_items (record { items = rs }) (set now a (f (get_or now a none))) (length-set now a _ ∙ ap length e) ∙ ap (λ xs. set xs a (f (get_or xs a none))) e
