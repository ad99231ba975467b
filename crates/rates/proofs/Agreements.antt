-- Where works and times agree of themselves, and which actor is the lowest where they do not. Assumes nothing.
use Rattle.std.proofs.Common.{◌≡◌, ℕ, ◌<◌, ◌≤◌, length, Option, None, Some, MatchOption, ap, inl, inr, arith}
use Rattle.std.proofs.lemmas.List.{get_or_past}
use Rattle.std.proofs.lemmas.Bool.{cases_lt}
use Rattle.policy.specs.Meaning.{View, Sound}
use Rattle.graph.specs.declared.graph.Graph.{Graph}
use Rattle.graph.specs.Rules.{nobody}
use Rattle.graph.specs.Meaning.{actors_in}
use Rattle.graph.proofs.Graphs.{actors_are}
use Rattle.model.specs.Net.{Net, Timed}
use Rattle.runs.specs.Seen.{net, times_of}
use Rattle.rates.specs.Agree.{Agree, Agreed, Differ, Lowest}

-- past 16 actors neither side has any
pub agree_past : (g : Graph) (v : View) → Sound v → (a : ℕ) → 16 ≤ a → Agree (net g).actors (times_of g) v a
agree_past g v s a h =
    let few : length (actors_in g) ≤ 16 = omega (arith, actors_are g, g.few) in
    let none : times_of g a ≡ 0 = ap (λ u. u.time) (get_or_past (actors_in g) a nobody (omega arith)) in
    record {
      there = λ x. absurd (omega arith);
      here = λ x. absurd (omega (arith, s.few));
      same = omega (arith, s.absent a (omega (arith, s.few)), s.work_promise a);
    }

-- the first of actors 0 to 15 that differs is the lowest of all
pub lowest_of : (g : Graph) (v : View) → Sound v → {low high : ℕ} → low ≡ 0 → high ≡ 16 → (r : Option ℕ) →
    MatchOption r ((b : ℕ) → low ≤ b → b < high → Agree (net g).actors (times_of g) v b)
    (λ a. (low ≤ a) × (a < high) × (Agree (net g).actors (times_of g) v a → ⊥) × ((b : ℕ) → low ≤ b → b < a → Agree (net g).actors (times_of g) v b)) →
    Lowest (net g) (times_of g) v r
lowest_of g v s l h None agree = λ a. elim (cases_lt a 16) [ inl lt ↦ agree a (omega arith) (omega arith) | inr ge ↦ agree_past g v s a ge ]
lowest_of g v s l h (Some a) (_, _, differs, below) = record { differs = differs; lowest = λ b lt. below b (omega arith) lt }

-- there is one lowest
pub lowest_one : (n : Net) (time : ℕ → ℕ) (v : View) (a b : ℕ) → Differ n time v a → Differ n time v b → a ≡ b
lowest_one n time v a b d e = elim (cases_lt a b) [
  | inl less ↦ absurd (d.differs (e.lowest a less))
  | inr more ↦ elim (cases_lt b a) [ inl less ↦ absurd (e.differs (d.lowest b less)) | inr same ↦ omega arith ]
]

-- a promise takes a tick or more where the work is a time
pub promised_timed : (n : Net) (time : ℕ → ℕ) (v : View) → Timed n time → Sound v → Agreed n time v → Timed n v.promise
promised_timed n time v pos s agreed a ha = omega (arith, s.work_promise a, (agreed a).same, pos a ha)
