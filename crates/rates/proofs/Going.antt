-- How rate goes on from tick to tick. Assumes nothing.
use Rattle.std.proofs.Common.{◌≡◌, ℕ, ◌+◌, ◌-◌, ◌%◌, ◌<◌, ◌≤◌, Bool, true, false, not, ◌&&◌, eqb, ltb, ◌⊎◌, List, [], ◌∷◌, ◌++◌, length, get_or, set, Some, None, Ok, Err, Option, Result, sym, refl, ap, ◌∙◌, subst, ap₂, inl, inr, add-one, arith}
use Rattle.std.proofs.lemmas.List.{length_push}
use Rattle.std.proofs.lemmas.Bool.{cases_Bool}
use Rattle.std.proofs.lemmas.Bool.Decides.{nat_tests}
use Rattle.model.specs.Net.{Net, State, when, every, busy, ends, fallen, run}
use Rattle.model.specs.Likeness.{Matches}
use Rattle.model.specs.Rate.{Answer, standstill, repeats, no_row, late, on, takes_row, answers, still, sample_due, says, rated, rate_of}
use Rattle.model.proofs.Every.{every_same}
use Rattle.model.proofs.Verdicts.{same_at, says_standstill, says_on, says_repeats, says_takes_row, says_no_row, due_later}
use Rattle.model.proofs.Steps.{step_first, step_on, step_takes_row, step_last, step_last_row, rated_answers}
use Rattle.rates.specs.declared.fault.Fault.{Fault}
use Rattle.rates.specs.declared.fault.Fault.TheVariants.{Works, NoRow, LastTick, Absent}
use Rattle.rates.specs.declared.rate.Rate.{Rate}
use Rattle.rates.specs.declared.rate.Rate.TheVariants.{Repeats, Standstill}
use Rattle.rates.specs.declared.sample.Sample.{Sample}
use Rattle.rates.specs.Rows.{same_row, Rising, Upto, row_of, leaves}
use Rattle.rates.specs.Rates.{last_tick, told, Rated, SampledIs, Judged}
use Rattle.rates.proofs.Rowed.{same_row_lem, row_is, length-leaves, taken_row, leaves_more, tops_more}

-- The rows before tick t: those of the ticks taken, none of them after t.
pub record Kept (n : Net) (time : ℕ → ℕ) (before : List Sample) (t : ℕ) (xs : List Sample) (m : ℕ) (taken : List ℕ) : Type 0 where
  pub rows : xs ≡ leaves n time taken before
  pub used : m ≡ length taken
  pub room : length taken ≤ length before
  pub few : length taken ≤ t
  pub tops : Upto t xs m
  pub rises : Rising xs m

-- What holds at each tick, before it is judged.
pub record Going (n : Net) (time : ℕ → ℕ) (rep : ℕ) (before : List Sample) (t : ℕ) (s : State) (is-due : Bool) (rows : List Sample) (used : ℕ) : Type 0 where
  pub taken : List ℕ
  pub kept : Kept n time before t rows used taken
  pub early : t ≤ last_tick
  pub state : Matches n s (run n time t)
  pub due : is-due ≡ sample_due n time rep t
  pub so_far : rate_of n time rep (length before) last_tick ≡ rated n time rep (length before) (last_tick - t) t taken

-- What the verdict of a tick that goes on leaves.
pub record On (n : Net) (time : ℕ → ℕ) (rep : ℕ) (before : List Sample) (t : ℕ) (rows : List Sample) (used : ℕ) (taken : List ℕ) : Type 0 where
  pub taken' : List ℕ
  pub kept : Kept n time before (t + 1) rows used taken'
  pub said : ((says n time rep (length before) t taken ≡ on) × (taken' ≡ taken)) ⊎ ((says n time rep (length before) t taken ≡ takes_row) × (taken' ≡ taken ++ t ∷ []))

-- What the verdict of a tick that answers leaves.
pub record Done (n : Net) (time : ℕ → ℕ) (rep : ℕ) (before : List Sample) (t : ℕ) (rows rows' : List Sample) (taken : List ℕ) (r : Result Rate Fault) : Type 0 where
  pub answer : Answer
  pub said : says n time rep (length before) t taken ≡ answers answer
  pub is : r ≡ told answer
  pub same : rows' ≡ rows

-- what a tick that goes on, or one that answers, comes to
abbrev pub Comes : (n : Net) (time : ℕ → ℕ) (rep : ℕ) (before : List Sample) (t : ℕ) (rows rows' : List Sample) (used' : ℕ) (taken : List ℕ) → Result (Option Rate) Fault → Type 0
Comes n time rep before t rows rows' used' taken (Ok None) = On n time rep before t rows' used' taken
Comes n time rep before t rows rows' used' taken (Ok (Some r)) = Done n time rep before t rows rows' taken (Ok r)
Comes n time rep before t rows rows' used' taken (Err f) = Done n time rep before t rows rows' taken (Err f)

module _ (n : Net) (time : ℕ → ℕ) (rep : ℕ) (before : List Sample) (fit : (n.actors ≤ 16) × (n.channels ≤ 32)) where
  abbrev room : ℕ
  room = length before

  still_is : (s z : State) → Matches n s z → every n.actors (λ a. not (busy s a)) ≡ still n z
  still_is s z h = every_same n.actors _ _ (λ a ha. ap (λ l. not (ltb 0 l)) (h.alike.left a ha))

  module _ (t : ℕ) (rows : List Sample) (used : ℕ) (taken : List ℕ) (k : Kept n time before t rows used taken) where
    -- nothing taken
    stays : (rows' : List Sample) (used' : ℕ) → rows' ≡ rows → used' ≡ used → Kept n time before (t + 1) rows' used' taken
    stays rows' used' e u = rw (e, u) (record {
      rows = k.rows;
      used = k.used;
      room = k.room;
      few = omega (arith, k.few);
      tops = λ i d lt. omega (arith, k.tops i d lt);
      rises = k.rises;
    })

    module _ (s : State) (m : Matches n s (run n time t)) where
      row : Sample
      row = row_of n s t

      compared : (i : ℕ) → i < length taken → same_row (get_or rows i row) row ≡ same_at n time t taken i
      unfolding row
      compared i lt =
          ap₂ same_row (ap (λ xs. get_or xs i row) k.rows ∙ taken_row n time taken before i row lt) (row_is n time fit s t m)
          ∙ same_row_lem n time fit (run n time (get_or taken i 0)) (run n time t) (get_or taken i 0) t

      none : ((i : ℕ) → i < used → same_row (get_or rows i row) row ≡ false) → (i : ℕ) → i < length taken → same_at n time t taken i ≡ false
      none h i lt = sym (compared i lt) ∙ h i (omega (arith, k.used))

      module _ (live : still n (run n time t) ≡ false) (due : sample_due n time rep t ≡ true) where
        takes : (rows' : List Sample) (used' : ℕ) → (Rising rows used → Rising rows' used') →
            SampledIs rows used row rows' used' (Ok None) → On n time rep before t rows' used' taken
        unfolding row
        takes rows' used' rising (spare, new, is, more) =
            let long : length rows ≡ length before = ap length k.rows ∙ length-leaves n time taken before k.room in
            let lt : length taken < length before = omega (arith, k.used) in
            record {
              taken' = taken ++ t ∷ [];
              kept = record {
                rows = is ∙ (ap₂ (λ xs i. set xs i row) k.rows k.used ∙ (ap (set (leaves n time taken before) (length taken)) (row_is n time fit s t m) ∙ leaves_more n time taken before t lt));
                used = more ∙ (ap (λ i. i + 1) k.used ∙ sym (length_push taken t));
                room = omega (arith, length_push taken t);
                few = omega (arith, length_push taken t, k.few);
                tops = let h = tops_more rows used t row spare refl k.tops in rw (is, more) (λ i d b. omega (arith, h i d b));
                rises = rising k.rises;
              };
              said = inr (says_takes_row n time rep room t taken live due (none new) lt, refl);
            }

        sampled : (rows' : List Sample) (used' : ℕ) (r : Result (Option Rate) Fault) → (Rising rows used → Rising rows' used') →
            SampledIs rows used row rows' used' r → Comes n time rep before t rows rows' used' taken r
        unfolding row
        sampled rows' used' (Ok None) rising h = takes rows' used' rising h
        sampled rows' used' (Ok (Some (Standstill f))) rising h = absurd h
        sampled rows' used' (Err LastTick) rising h = absurd h
        sampled rows' used' (Err (Works a)) rising h = absurd h
        sampled rows' used' (Err Absent) rising h = absurd h
        sampled rows' used' (Err NoRow) rising (full, new, is, _) = record {
          answer = no_row;
          said = says_no_row n time rep room t taken live due (none new)
              (let long : length rows ≡ length before = ap length k.rows ∙ length-leaves n time taken before k.room in omega (arith, k.used));
          is = refl;
          same = is;
        }
        sampled rows' used' (Ok (Some (Repeats f d m'))) rising (r, (lt, is, first), ef, ed, em, same, _) =
            let in_taken : r < length taken = omega (arith, k.used) in
            let tick : f ≡ get_or taken r 0 = ef ∙ ap (λ x. x.tick) (ap (λ xs. get_or xs r row) k.rows ∙ taken_row n time taken before r row in_taken) in
            record {
              answer = repeats (get_or taken r 0) (t - get_or taken r 0) (length taken - r);
              said = says_repeats n time rep room t taken live due r in_taken (sym (compared r in_taken) ∙ is)
                  (λ j b. sym (compared j (omega arith)) ∙ first j b);
              is = rw (← tick) (ap₂ (λ x y. Ok (Repeats f x y)) ed (em ∙ ap (λ u. u - r) k.used));
              same = same;
            }

      comes : (due : Bool) → due ≡ sample_due n time rep t → (rows' : List Sample) (used' : ℕ) (r : Result (Option Rate) Fault) →
          (Rising rows used → Rising rows' used') →
          Judged n s due t rows used rows' used' r → Comes n time rep before t rows rows' used' taken r
      unfolding row
      comes due d rows' used' r rising j = elim (cases_Bool (every n.actors (λ a. not (busy s a)))) [
        | inl stop ↦ let (is, same, u) = j.still stop in
            subst (Comes n time rep before t rows rows' used' taken) (sym is)
            (record { answer = standstill t; said = says_standstill n time rep room t taken (sym (still_is s (run n time t) m) ∙ stop); is = refl; same = same })
        | inr live ↦ elim (cases_Bool due) [
          | inr off ↦ let (is, same, u) = j.on live off in
              subst (Comes n time rep before t rows rows' used' taken) (sym is)
              (record { taken' = taken; kept = stays rows' used' same u; said = inl (says_on n time rep room t taken (sym (still_is s (run n time t) m) ∙ live) (sym d ∙ off), refl) })
          | inl is-due ↦ sampled (sym (still_is s (run n time t) m) ∙ live) (sym d ∙ is-due) rows' used' r rising (j.sampled live is-due)
        ]
      ]

  pub begins : {s : State} → Matches n s (run n time 0) → Going n time rep before 0 s true before 0
  begins m = record {
    taken = [];
    kept = record { rows = refl; used = refl; room = omega arith; few = omega arith; tops = λ i d lt. absurd (omega arith); rises = λ i j d le lt. absurd (omega arith) };
    early = omega arith;
    state = m;
    due = refl;
    so_far = step_first n time rep room last_tick;
  }

pub judged_comes : {n : Net} {time : ℕ → ℕ} {rep : ℕ} {before : List Sample} (fit : (n.actors ≤ 16) × (n.channels ≤ 32)) {t : ℕ} {s : State} {due : Bool} {rows : List Sample} {used : ℕ}
    (g : Going n time rep before t s due rows used) {rows' : List Sample} {used' : ℕ} {r : Result (Option Rate) Fault} → (Rising rows used → Rising rows' used') →
    Judged n s due t rows used rows' used' r → Comes n time rep before t rows rows' used' g.taken r
judged_comes {n} {time} {rep} {before} fit {t} {s} {due} {rows} {used} g {rows'} {used'} {r} =
    comes n time rep before fit t rows used g.taken g.kept s g.state due g.due rows' used' r

module _ {n : Net} {time : ℕ → ℕ} {rep : ℕ} {before : List Sample} {t : ℕ} {s : State} {due : Bool} {rows : List Sample} {used : ℕ}
    (g : Going n time rep before t s due rows used) where
  pub answers_so : {rows' : List Sample} {r : Result Rate Fault} → Done n time rep before t rows rows' g.taken r → Rated n time rep before rows' r
  answers_so d =
      let o = g.so_far ∙ rated_answers n time rep (length before) t g.taken (last_tick - t) d.answer d.said in
      record {
        value = d.is ∙ ap (λ x. told x.answer) (sym o);
        after = d.same ∙ (g.kept.rows ∙ ap (λ x. leaves n time x.taken before) (sym o));
        rising = rw (o, d.same, ← g.kept.used) g.kept.rises;
      }

  -- after a verdict that goes on, at the last tick
  pub ends_so : {rows' : List Sample} {used' : ℕ} → t ≡ last_tick → On n time rep before t rows' used' g.taken → Rated n time rep before rows' (Err LastTick)
  ends_so last h =
      let o : rate_of n time rep (length before) last_tick ≡ record { answer = late; taken = h.taken' } = g.so_far ∙ elim h.said [
        | inl (said, is) ↦ rw is (step_last n time rep (length before) last_tick t g.taken (omega arith) said)
        | inr (said, is) ↦ rw is (step_last_row n time rep (length before) last_tick t g.taken (omega arith) said)
      ] in
      record {
        value = ap (λ x. told x.answer) (sym o);
        after = h.kept.rows ∙ ap (λ x. leaves n time x.taken before) (sym o);
        rising = rw (o, ← h.kept.used) h.kept.rises;
      }

  -- and before the last tick
  pub goes_on : {z : State} {due' : Bool} {rows' : List Sample} {used' : ℕ} → (t ≡ last_tick → ⊥) → On n time rep before t rows' used' g.taken →
      Matches n z (run n time (t + 1)) → due' ≡ sample_due n time rep (t + 1) → Going n time rep before (t + 1) z due' rows' used'
  goes_on not_last h m d =
      let lt : t < last_tick = omega (arith, g.early) in
      record {
        taken = h.taken';
        kept = h.kept;
        early = omega arith;
        state = m;
        due = d;
        so_far = g.so_far ∙ elim h.said [
          | inl (said, is) ↦ rw is (step_on n time rep (length before) last_tick t g.taken lt said)
          | inr (said, is) ↦ rw is (step_takes_row n time rep (length before) last_tick t g.taken lt said)
        ];
      }

-- whether a sample is due at the next tick
up_one : (b : Bool) (e : ℕ) → ltb e (e + when b 1) ≡ b
up_one true e = grind (arith, nat_tests)
up_one false e = grind (arith, nat_tests)

pub due_next : (n : Net) (time : ℕ → ℕ) (rep t : ℕ) {s z : State} → 0 < n.actors → Matches n s (run n time t) → Matches n z (run n time (t + 1)) →
    (ends s (fallen s) 0 && eqb (z.ended 0 % rep) 0) ≡ sample_due n time rep (t + 1)
due_next n time rep t {s} {z} some m m' =
    let same : ends s (fallen s) 0 ≡ ends (run n time t) (fallen (run n time t)) 0 = ap (λ l. ltb 0 l && eqb (l - 1) 0) (m.alike.left 0 some) in
    let up : ltb ((run n time t).ended 0) ((run n time (t + 1)).ended 0) ≡ ends (run n time t) (fallen (run n time t)) 0 =
    rw add-one (up_one (ends (run n time t) (fallen (run n time t)) 0) ((run n time t).ended 0)) in
    ap₂ (λ x e. x && eqb (e % rep) 0) (same ∙ sym up) (m'.ended 0 some) ∙ sym (due_later n time rep t)

-- tables that agree have one outcome
pub rated_as : {n : Net} {time time' : ℕ → ℕ} {rep : ℕ} {rows rows' : List Sample} {r : Result Rate Fault} → ((a : ℕ) → time a ≡ time' a) →
    Rated n time rep rows rows' r → Rated n time' rep rows rows' r
rated_as {n} {time} {time'} {rep} {rows} {rows'} {r} h = subst (λ (f : ℕ → ℕ). Rated n f rep rows rows' r) (λ i a. h a i)

-- the same of rows that are those
pub rated_over : {n : Net} {time : ℕ → ℕ} {rep : ℕ} {before rows after rows' : List Sample} {r : Result Rate Fault} → before ≡ rows → rows' ≡ after →
    Rated n time rep before after r → Rated n time rep rows rows' r
rated_over e f h = rw (← e, f) h
