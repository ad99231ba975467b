-- What rate's outcome means of the run. Assumes nothing.
use Rattle.std.proofs.Common.{◌≡◌, ℕ, zero, suc, ◌+◌, ◌-◌, ◌*◌, ◌/◌, ◌%◌, ◌<◌, ◌≤◌, true, false, cond, eqb, ltb, ◌⊎◌, List, [], ◌∷◌, ◌++◌, length, get_or, sym, refl, ap, ◌∙◌, subst, inl, inr, lt_of_mul-lt-mul_right, arith}
use native.Mathlib.Nat.{mul-mod_left}
use Rattle.std.proofs.lemmas.List.{length_push, get_or_push, get_or_append_left}
use Rattle.std.proofs.lemmas.Bool.{cases_lt, cond_both, and_parts, and_cases, true≢false, eqb-true, eqb-false, ltb-true, ltb-false}
use Rattle.model.specs.Net.{Net, run}
use Rattle.model.specs.Likeness.{Same}
use Rattle.model.specs.Rate.{Answer, standstill, repeats, no_row, late, Verdict, Outcome, same, still, sample_due, first_same, sample_says, says, led, rated, rate_of, takes_row, answers, on}
use Rattle.model.specs.Meaning.{Accepted, Repeats, RateMeans, RateHolds}
use Rattle.model.proofs.Runs.{run_rises, run_grows}
use Rattle.model.proofs.Repeating.{repeating}
use Rattle.model.proofs.Standing.{stands}
use Rattle.model.proofs.Verdicts.{same_true, still_true, first_same_is}

-- a count that has come to a multiple has come to the next one
hit : (rep l e e' : ℕ) → e < l * rep → l * rep ≤ e + rep → e < e' → e' ≤ e + 1 → e' % rep ≡ 0 → e' ≡ l * rep
hit rep l e e' below above up one even =
    let whole : e' / rep * rep ≡ e' = omega arith in
    let x : e' / rep < suc l = lt_of_mul-lt-mul_right rep (omega arith) in
    let y : l < suc (e' / rep) = lt_of_mul-lt-mul_right rep (omega arith) in
    let z : e' / rep ≡ l = omega arith in
    sym whole ∙ ap (λ k. k * rep) z

-- where row i of the rows stands once t's has been added
placed : (taken : List ℕ) (t i : ℕ) → i < length (taken ++ t ∷ []) →
    ((i < length taken) × (get_or (taken ++ t ∷ []) i 0 ≡ get_or taken i 0)) ⊎ ((i ≡ length taken) × (get_or (taken ++ t ∷ []) i 0 ≡ t))
placed taken t i lt = elim (cases_lt i (length taken)) [
  | inl old ↦ inl (old, get_or_append_left taken (t ∷ []) 0 i old)
  | inr new ↦ let e : length taken ≡ i = omega (arith, length_push taken t) in inr (sym e, get_or_push taken t 0 i e)
]

module _ (n : Net) (time reps : ℕ → ℕ) (ok : Accepted n time reps) (room : ℕ) where
  abbrev rep : ℕ
  rep = reps 0

  -- actor 0's count at a tick
  abbrev count : ℕ → ℕ
  count t = (run n time t).ended 0

  rises : (t : ℕ) → (count t ≤ count (suc t)) × (count (suc t) ≤ count t + 1)
  rises t = run_rises n ok.sound time ok.timed t 0 ok.some

  -- before tick t, so many samples were due
  abbrev Upto : ℕ → ℕ → Type 0
  Upto zero l = l ≡ 0
  Upto (suc t) l = (count t < l * rep) × (l * rep ≤ count t + rep)

  -- row i is of an earlier tick, at which sample i was due
  record Rows (t : ℕ) (taken : List ℕ) : Type 0 where
    pub within : length taken ≤ room
    pub earlier : (i : ℕ) → i < length taken → get_or taken i 0 < t
    pub sampled : (i : ℕ) → i < length taken → count (get_or taken i 0) ≡ i * rep
    pub upto : Upto t (length taken)

  due_count : (t l : ℕ) → Upto t l → sample_due n time rep t ≡ true → count t ≡ l * rep
  due_count zero l h d = rw h (omega arith)
  due_count (suc t) l (below, above) d =
      let (up, even) = and_parts (ltb (count t) (count (suc t))) (eqb (count (suc t) % rep) 0) d in
      hit rep l (count t) (count (suc t)) below above (ltb-true _ _ up) (rises t).1 (eqb-true _ _ even)

  due_not : (t l : ℕ) → Upto t l → sample_due n time rep t ≡ false → Upto (suc t) l
  due_not zero l h d = absurd (true≢false d)
  due_not (suc t) l (below, above) d =
      let off : count (suc t) ≡ l * rep → ⊥ = λ x. elim (and_cases (ltb (count t) (count (suc t))) (eqb (count (suc t) % rep) 0) d) [
        | inl stay ↦ omega (arith, ltb-false (count t) (count (suc t)) stay)
        | inr odd ↦ eqb-false _ _ odd (ap (λ y. y % rep) x ∙ mul-mod_left l rep)
      ] in
      (omega (arith, off, rises t), omega (arith, rises t))

  rows_stay : (t : ℕ) (taken : List ℕ) → Rows t taken → sample_due n time rep t ≡ false → Rows (suc t) taken
  rows_stay t taken h d = record {
    within = h.within;
    earlier = λ i lt. omega (arith, h.earlier i lt);
    sampled = h.sampled;
    upto = due_not t (length taken) h.upto d;
  }

  rows_more : (t : ℕ) (taken : List ℕ) → Rows t taken → sample_due n time rep t ≡ true → length taken < room → Rows (suc t) (taken ++ t ∷ [])
  rows_more t taken h d spare = record {
    within = rw length_push (omega arith);
    earlier = λ i lt. elim (placed taken t i lt) [ inl (old, e) ↦ rw e (omega (arith, h.earlier i old)) | inr (new, e) ↦ rw e (omega arith) ];
    sampled = λ i lt. elim (placed taken t i lt) [ inl (old, e) ↦ ap count e ∙ h.sampled i old | inr (new, e) ↦ ap count e ∙ now ∙ ap (λ x. x * rep) (sym new) ];
    upto = rw length_push (omega (arith, now, ok.counted), omega (arith, now));
  }
    where
      now : count t ≡ length taken * rep
      now = due_count t (length taken) h.upto d

  -- the state of tick f comes again d ticks and m samples later
  record Found (f d m : ℕ) : Type 0 where
    pub later : 0 < d
    pub some : 0 < m
    pub same : Same n (run n time f) (run n time (f + d))
    pub gained : count (f + d) ≡ count f + m * rep

  found : (t : ℕ) (taken : List ℕ) → Rows t taken → sample_due n time rep t ≡ true → (r : ℕ) → r < length taken → same n (run n time (get_or taken r 0)) (run n time t) ≡ true →
      Found (get_or taken r 0) (t - get_or taken r 0) (length taken - r)
  found t taken h d r lt is = record {
    later = omega arith;
    some = omega arith;
    same = subst (λ x. Same n (run n time f) (run n time x)) then (same_true n _ _ is);
    gained = sym (ap count then) ∙ omega (arith, due_count t (length taken) h.upto d, h.sampled r lt, ap (λ x. x * rep) rows);
  }
    where
      f : ℕ
      f = get_or taken r 0

      before : f < t
      before = h.earlier r lt

      then : t ≡ f + (t - f)
      then = omega (arith, before)

      rows : length taken ≡ r + (length taken - r)
      rows = omega arith

  abbrev Says : Answer → List ℕ → Type 0
  Says (standstill f) taken = still n (run n time f) ≡ true
  Says (repeats f d m) taken = Found f d m
  Says no_row taken = length taken ≡ room
  Says late taken = Unit {0}

  record Means (o : Outcome) : Type 0 where
    pub within : length o.taken ≤ room
    pub sampled : (i : ℕ) → i < length o.taken → count (get_or o.taken i 0) ≡ i * rep
    pub said : Says o.answer o.taken

  answered : (t : ℕ) (taken : List ℕ) → Rows t taken → (x : Answer) → Says x taken → Means (record { answer = x; taken = taken })
  answered t taken h x said = record { within = h.within; sampled = h.sampled; said = said }

  -- one tick, whatever follows it
  step : (t : ℕ) (taken : List ℕ) → Rows t taken → (go : List ℕ → Outcome) → ((rows : List ℕ) → Rows (suc t) rows → Means (go rows)) →
      Means (led (says n time rep room t taken) t taken go)
  unfolding says
  step t taken h go means =
      cond_both (still n (run n time t)) (answers (standstill t)) (cond (sample_due n time rep t) (sample_says n time room t taken) on) ends
      (answered t taken h (standstill t))
      (λ _. cond_both (sample_due n time rep t) (sample_says n time room t taken) on ends sample (λ off. means taken (rows_stay t taken h off)))
    where
      r : ℕ
      r = first_same n time t taken

      again : Answer
      again = repeats (get_or taken r 0) (t - get_or taken r 0) (length taken - r)

      ends : Verdict → Type 0
      ends v = Means (led v t taken go)

      new : sample_due n time rep t ≡ true → ends (cond (ltb (length taken) room) takes_row (answers no_row))
      new d = cond_both (ltb (length taken) room) takes_row (answers no_row) ends
          (λ spare. means (taken ++ t ∷ []) (rows_more t taken h d (ltb-true _ _ spare)))
          (λ full. answered t taken h no_row (omega (arith, h.within, ltb-false _ _ full)))

      sample : sample_due n time rep t ≡ true → ends (sample_says n time room t taken)
      sample d = cond_both (ltb r (length taken)) (answers again) (cond (ltb (length taken) room) takes_row (answers no_row)) ends
          (λ lt. answered t taken h again (found t taken h d r (ltb-true _ _ lt) (first_same_is n time t taken (ltb-true _ _ lt))))
          (λ _. new d)

  means : (more t : ℕ) (taken : List ℕ) → Rows t taken → Means (rated n time rep room more t taken)
  unfolding rated
  means zero t taken h = step t taken h (λ rows. record { answer = late; taken = rows }) (λ rows k. answered (suc t) rows k late tt)
  means (suc more) t taken h = step t taken h (λ rows. rated n time rep room more (suc t) rows) (λ rows k. means more (suc t) rows k)

  outcome_means : (last : ℕ) → Means (rate_of n time rep room last)
  unfolding rate_of
  outcome_means last = means last 0 [] (record { within = omega arith; earlier = λ i lt. absurd (omega arith); sampled = λ i lt. absurd (omega arith); upto = refl })

  rate_means : (o : Outcome) → Means o → RateMeans n time reps room o
  rate_means o h = record {
    repeating = repeats_on;
    standing = λ f e. stands n ok.sound time ok.timed f (still_true n (run n time f) (told (standstill f) e));
    ceasing = λ (t, none) f d m e. let (u, more) = (repeats_on f d m e).endless 0 (count t + 1) ok.some ok.counted in
        elim (cases_lt u t) [
          | inl early ↦ omega (arith, run_grows n ok.sound time ok.timed u t 0 ok.some (omega arith))
          | inr from ↦ omega (arith, none u 0 from ok.some)
        ];
    full = told no_row;
    within = h.within;
    sampled = h.sampled;
  }
    where
      told : (x : Answer) → o.answer ≡ x → Says x o.taken
      told x e = subst (λ y. Says y o.taken) e h.said

      repeats_on : (f d m : ℕ) → o.answer ≡ repeats f d m → Repeats n time reps f d m
      repeats_on f d m e = let k = told (repeats f d m) e in repeating n time reps ok f d k.same m k.gained k.later k.some

pub rate_holds : RateHolds
rate_holds n time reps ok room last = rate_means n time reps ok room (rate_of n time (reps 0) room last) (outcome_means n time reps ok room last)
