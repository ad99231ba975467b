-- No allowed schedule is faster than the run. Assumes nothing.
use Rattle.std.proofs.Common.{◌≡◌, ℕ, zero, suc, ◌+◌, ◌-◌, ◌*◌, ◌<◌, ◌≤◌, Bool, true, ◌&&◌, leb, refl, subst, inl, inr, mul-le-mul_left, arith}
use Rattle.std.proofs.lemmas.Bool.{cases_lt, cases_Bool, and_parts, and_from, leb-true, le-leb}
use Rattle.std.proofs.lemmas.Bool.Decides.{nat_tests}
use Rattle.model.specs.Net.{Net, Sound, Timed, run, when}
use Rattle.model.specs.Laws.{Behaviour, counts, Legal}
use Rattle.model.specs.Schedule.{Schedule, Ended, Allowed, InOrder, NoFaster}
use Rattle.model.proofs.Law.{law}
use Rattle.model.proofs.Runs.{run_eager}

-- how many numbers below k pass f
abbrev many : (ℕ → Bool) → ℕ → ℕ
many f zero = 0
many f (suc k) = many f k + when (f k) 1

many_le : (f : ℕ → Bool) (m : ℕ) → many f m ≤ m
many_le f zero = omega arith
many_le f (suc m) = let h = many_le f m in grind (arith, nat_tests)

-- of a test that passes each number below one that passes
module _ (f : ℕ → Bool) (down : (k : ℕ) → f (suc k) ≡ true → f k ≡ true) where
  downs : (j k : ℕ) → j ≤ k → f k ≡ true → f j ≡ true
  downs j zero h e = subst (λ x. f x ≡ true) (let z : 0 ≡ j = omega arith in z) e
  downs j (suc k) h e = elim (cases_lt k j) [
    | inl new ↦ subst (λ x. f x ≡ true) (let z : suc k ≡ j = omega arith in z) e
    | inr old ↦ downs j k old (down k e)
  ]

  has_many : (m j : ℕ) → j < m → f j ≡ true → j < many f m
  has_many zero j h e = omega arith
  has_many (suc m) j h e = elim (cases_lt j m) [
    | inl old ↦ omega (arith, has_many m j old e)
    | inr new ↦
        let here : f m ≡ true = downs m j new e in
        let all : m ≤ many f m = elim (cases_lt 0 m) [
          | inl some ↦ omega (arith, has_many m (m - 1) (omega arith) (downs (m - 1) j (omega arith) e))
          | inr none ↦ omega arith
        ] in
        grind (arith, here)
  ]

  many_has : (m j : ℕ) → j < many f m → f j ≡ true
  many_has zero j h = absurd (omega arith)
  many_has (suc m) j h = elim (cases_Bool (f m)) [
    | inl e ↦ downs j m (omega (arith, many_le f (suc m))) e
    | inr e ↦ many_has m j (grind (arith, nat_tests))
  ]

module _ (n : Net) (time : ℕ → ℕ) (s : Schedule) (ok : Allowed n time s) where
  abbrev begun : ℕ → ℕ → ℕ → Bool
  begun t a k = s.has a k && leb (s.start a k) t

  abbrev done : ℕ → ℕ → ℕ → Bool
  done t a k = s.has a k && leb (s.end a k) t

  begun_down : (t a k : ℕ) → a < n.actors → begun t a (suc k) ≡ true → begun t a k ≡ true
  begun_down t a k ha h =
      let (has, by) = and_parts (s.has a (suc k)) (leb (s.start a (suc k)) t) h in
      let had = ok.listed a k ha has in
      and_from _ _ had (le-leb _ _ (omega (arith, leb-true _ _ by, ok.apart a k ha has, ok.long a k ha had)))

  done_down : (t a k : ℕ) → a < n.actors → done t a (suc k) ≡ true → done t a k ≡ true
  done_down t a k ha h =
      let (has, by) = and_parts (s.has a (suc k)) (leb (s.end a (suc k)) t) h in
      and_from _ _ (ok.listed a k ha has) (le-leb _ _ (omega (arith, leb-true _ _ by, ok.apart a k ha has, ok.long a (suc k) ha has)))

  pub ended_all : (a t m : ℕ) → a < n.actors → Ended s a t m → (k : ℕ) → k < m → (s.has a k ≡ true) × (s.end a k ≤ t)
  ended_all a t zero ha e k lt = absurd (omega arith)
  ended_all a t (suc m) ha (has, by) k lt =
      let (there, ended) = and_parts (s.has a k) (leb (s.end a k) t) (downs (done t a) (λ j. done_down t a j ha) k m (omega arith) (and_from _ _ has (le-leb _ _ by))) in
      (there, leb-true _ _ ended)

  module _ (pos : Timed n time) where
    -- firing k starts at k or later
    starts_late : (a k : ℕ) → a < n.actors → s.has a k ≡ true → k ≤ s.start a k
    starts_late a zero ha h = omega arith
    starts_late a (suc k) ha h = let had = ok.listed a k ha h in omega (arith, pos a ha, starts_late a k ha had, ok.long a k ha had, ok.apart a k ha h)

    pub ended_most : (a t m : ℕ) → a < n.actors → Ended s a t m → m ≤ t
    ended_most a t zero ha e = omega arith
    ended_most a t (suc k) ha (has, by) = omega (arith, pos a ha, starts_late a k ha has, ok.long a k ha has)

    abbrev behaviour : Behaviour
    behaviour = record { started = λ t a. many (begun t a) (t + 1); ended = λ t a. many (done t a) t }

    has_started : (t a k : ℕ) → a < n.actors → s.has a k ≡ true → s.start a k ≤ t → k < behaviour.started t a
    has_started t a k ha h by = has_many (begun t a) (λ j. begun_down t a j ha) (t + 1) k (omega (arith, starts_late a k ha h)) (and_from _ _ h (le-leb _ _ by))

    has_ended : (t a m : ℕ) → a < n.actors → Ended s a t m → m ≤ behaviour.ended t a
    has_ended t a zero ha e = omega arith
    has_ended t a (suc k) ha (h, by) = has_many (done t a) (λ j. done_down t a j ha) t k (ended_most a t (suc k) ha (h, by)) (and_from _ _ h (le-leb _ _ by))

    started_has : (t a k : ℕ) → a < n.actors → k < behaviour.started t a → (s.has a k ≡ true) × (s.start a k ≤ t)
    started_has t a k ha h = let (has, by) = and_parts (s.has a k) (leb (s.start a k) t) (many_has (begun t a) (λ j. begun_down t a j ha) (t + 1) k h) in (has, leb-true _ _ by)

    ended_has : (t a k : ℕ) → a < n.actors → k < behaviour.ended t a → (s.has a k ≡ true) × (s.end a k ≤ t)
    ended_has t a k ha h = let (has, by) = and_parts (s.has a k) (leb (s.end a k) t) (many_has (done t a) (λ j. done_down t a j ha) t k h) in (has, leb-true _ _ by)

    -- what has ended by r has ended by a later t
    ended_later : (a r t m : ℕ) → r ≤ t → Ended s a r m → Ended s a t m
    ended_later a r t zero h e = tt
    ended_later a r t (suc k) h (has, by) = (has, omega arith)

    -- a need that is met at each start is met by all that have started
    needed : (t a b need give base : ℕ) → a < n.actors → b < n.actors →
        ((k : ℕ) → s.has a k ≡ true → (m : ℕ) × Ended s b (s.start a k) m × (need * (k + 1) ≤ base + give * m)) →
        need * behaviour.started t a ≤ base + give * behaviour.ended t b
    needed t a b need give base ha hb each = go (behaviour.started t a) refl
      where
        go : (j : ℕ) → behaviour.started t a ≡ j → need * j ≤ base + give * behaviour.ended t b
        go zero e = omega arith
        go (suc k) e =
            let (has, by) = started_has t a k ha (omega arith) in
            let (m, ended, enough) = each k has in
            omega (arith, mul-le-mul_left give (has_ended t b m hb (ended_later b (s.start a k) t m by ended)))

    pub schedule_legal : Sound n → Legal n time behaviour
    schedule_legal sound = record {
      fed = λ t. record {
        tokens = λ c hc. needed t (n.dest c) (n.source c) (n.q c) (n.p c) (n.initial c) (sound.dest_in c hc) (sound.source_in c hc) (λ k. ok.tokens c k hc);
        places = λ c hc. needed t (n.source c) (n.dest c) (n.p c) (n.q c) (n.capacity c - n.initial c) (sound.source_in c hc) (sound.dest_in c hc) (λ k. ok.places c k hc);
      };
      single = λ t a ha. one t a ha (behaviour.started t a) refl;
      long = λ t a k ha some h. let (has, by) = ended_has t a (k - 1) ha (omega arith) in
          (s.start a (k - 1), omega (arith, ok.long a (k - 1) ha has), omega (arith, has_started (s.start a (k - 1)) a (k - 1) ha has (omega arith)));
    }
      where
        one : (t a : ℕ) → a < n.actors → (m : ℕ) → behaviour.started t a ≡ m → behaviour.started t a ≤ behaviour.ended t a + 1
        one t a ha zero e = omega arith
        one t a ha (suc zero) e = omega arith
        one t a ha (suc (suc k)) e = let (has, by) = started_has t a (suc k) ha (omega arith) in
            omega (arith, has_ended t a (suc k) ha (ok.listed a k ha has, omega (arith, ok.apart a k ha has)))

pub in_order : InOrder
in_order = record { all = λ n time s ok. ended_all n time s ok; most = λ n time s pos ok. ended_most n time s ok pos }

pub no_faster : NoFaster
no_faster n time s sound pos ok a k ha h =
    omega (
      arith,
      has_ended n time s ok pos (s.end a k) a (suc k) ha (h, omega arith),
      law n time (counts (run n time)) (behaviour n time s ok pos) sound pos (run_eager n sound time pos) (schedule_legal n time s ok pos sound) (s.end a k) a ha,
    )
