-- A ring of a graph's times, and a slice of 2 in 5 over it.
use Rattle.std.proofs.Common.{◌≡◌, ℕ, zero, suc, ◌<◌, ◌≤◌, Bool, true, false, cond, ltb, List, length, get_or, take, Ok, Err, sym, refl, ap, ◌∙◌, ⊎_elim, arith, lit<}
use Rattle.std.proofs.lemmas.List.{get_or_past, length-take-le, get_or-take}
use Rattle.std.proofs.lemmas.Bool.{cases_lt, lt-ltb}
use Rattle.std.proofs.lemmas.Bool.Decides.{nat_tests}
use Rattle.graph.specs.declared.actor.Actor.{Actor}
use Rattle.graph.specs.declared.graph.Graph.{Graph}
use Rattle.graph.specs.Rules.{nobody, timed}
use Rattle.graph.specs.Meaning.{actors_in}
use Rattle.graph.proofs.Graphs.{actors_are}
use Rattle.model.specs.Net.{when}
use Rattle.policy.specs.Slices.{shown, TooLong}
use Rattle.policy.specs.Turns.{total}
use Rattle.policy.specs.Wheel.{wide}
use Rattle.policy.specs.Works.{Workable, RowsMade, works_of}
use Rattle.policy.specs.declared.fault.Fault.{Fault}
use Rattle.policy.specs.declared.fault.Fault.TheVariants.{Crowd, Limits, Promise}
use Rattle.policy.specs.declared.ring.Ring.{Ring}
use Rattle.policy.specs.contracts.ring.RingPolicy.TheImpl.{ghosts}
use Rattle.policy.specs.declared.slice.Slice.{Slice}
use Rattle.runs.specs.Seen.{at, times_of}
use Rattle.report.specs.Lines.{together, promised, promised_to}
use Rattle.report.specs.Piles.{ring_seen, SliceIs, PileIs}

-- a sum goes by what is added
total_together : (ws : List ℕ) (f : ℕ → ℕ) (k : ℕ) → ((a : ℕ) → a < k → get_or ws a 0 ≡ f a) → total ws k ≡ together f k
total_together ws f zero h = refl
total_together ws f (suc k) h = rw (total_together ws f k (λ a l. h a (omega arith)), h k (omega arith)) refl

-- a promise of nobody is none
wide_when : (b : Bool) (w : ℕ) → wide 5 2 (cond b w 0) ≡ when b (wide 5 2 w)
wide_when true w = refl
wide_when false w = refl

shown_fits : (l x : ℕ) → l ≤ 65535 → shown l x ≡ x
shown_fits l x h = grind (arith, nat_tests)

-- works that are the first of these times
module _ (g : Graph) (times works : List ℕ) (same : (a : ℕ) → at times a ≡ times_of g a) (long : length times ≡ 16) (front : works ≡ take (length (actors_in g)) times) where
  abbrev n : ℕ
  n = length (actors_in g)

  few : (1 ≤ n) × (n ≤ 16)
  few = (omega (arith, actors_are g, g.few), omega (arith, actors_are g, g.few))

  works_many : length works ≡ n
  works_many = rw front (length-take-le n times (omega (arith, few, long)))

  works_are : (a : ℕ) → get_or works a 0 ≡ times_of g a
  works_are a =
      ⊎_elim (λ (h : a < n). rw front (get_or-take n times a 0 h ∙ same a))
      (λ h. get_or_past works a 0 (omega (arith, works_many)) ∙ sym (ap (λ (u : Actor). u.time) (get_or_past (actors_in g) a nobody h)))
      (cases_lt a n)

  limits : (a : ℕ) → a < n → (1 ≤ times_of g a) × (times_of g a ≤ 4095)
  limits a h =
      let t : timed (times_of g a) ≡ true = (g.named a h).3 in
      let low : 1 ≤ times_of g a = grind (arith, nat_tests) in
      let high : times_of g a ≤ 4095 = grind (arith, nat_tests) in
      (low, high)

  workable : Workable works
  workable = record {
    some = omega (arith, works_many, few);
    few = omega (arith, works_many, few);
    least = λ a h. omega (arith, works_are a, limits a (omega (arith, works_many)));
    most = λ a h. omega (arith, works_are a, limits a (omega (arith, works_many)));
  }

  module _ (r : Ring) (made : RowsMade works r.rows.list.items) where
    count_is : length r.rows.list.items ≡ n
    count_is = made.number workable ∙ works_many

    work_is : (a : ℕ) → (ring_seen r).work a ≡ times_of g a
    work_is a = made.works workable a ∙ works_are a

    promise_is : (a : ℕ) → wide 5 2 ((ring_seen r).promise a) ≡ promised_to g a
    promise_is a =
        rw (count_is, total_together (works_of r.rows.list.items) (times_of g) n (λ b _. work_is b)) (wide_when (ltb a n) (together (times_of g) n))

    -- a promise is all of it or none
    within : (a : ℕ) → promised_to g a ≤ promised g
    within a = elim (ltb a (length (actors_in g))) as (λ b. when b (promised g) ≤ promised g) [ true ↦ omega arith | false ↦ omega arith ]

    first_is : promised_to g 0 ≡ promised g
    first_is = ap (λ (b : Bool). when b (promised g)) (lt-ltb 0 n (omega (arith, few)))

    too_long : (a : ℕ) → TooLong (ring_seen r) 5 2 a → (a ≡ 0) × (65535 < promised g)
    too_long a t =
        let over : 65535 < promised g = omega (arith, t.long, promise_is a, within a) in
        let first : a ≡ 0 = ⊎_elim (λ (h : 0 < a). absurd (omega (arith, t.lowest 0 h, promise_is 0, first_is))) (λ h. omega arith) (cases_lt 0 a) in
        (first, over)

    pub too_wide : (f : Fault) → SliceIs r (Err f) → (f ≡ Promise 0) × (65535 < promised g)
    too_wide Crowd h = absurd h
    too_wide (Limits a) h = absurd (omega (arith, h.1 (lit< tt)))
    too_wide (Promise a) h = let t = too_long a h in (ap Promise t.0, t.1)

    pub piled : (p : Slice Ring ghosts) → SliceIs r (Ok p) → PileIs g (Ok p)
    piled p m =
        let fits : (a : ℕ) → wide p.period p.slots ((ring_seen p.below).promise a) ≤ 65535 = λ a. rw (m.0, m.1, m.2) (m.3.fits a) in
        let many : length p.below.rows.list.items ≡ n = ap (λ (q : Ring). length q.rows.list.items) m.0 ∙ count_is in (
          omega (arith, m.3.fits 0, promise_is 0, first_is),
          λ a. record {
            there = λ h. omega arith;
            here = λ h. omega arith;
            same = shown_fits _ _ (fits a) ∙ (ap (λ (q : Ring). (ring_seen q).work a) m.0 ∙ work_is a);
          },
          λ a. shown_fits _ _ (fits a) ∙ rw (m.0, m.1, m.2) (promise_is a),
        )
