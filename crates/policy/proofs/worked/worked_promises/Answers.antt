use Rattle.std.proofs.Common.{◌≡◌, ℕ, zero, suc, ◌<◌, ◌≤◌, get_or, refl, ap, ◌∙◌, arith, lit<, lit≤}
use Rattle.policy.specs.declared.free.Free.{Free}
use Rattle.policy.specs.Wheel.{wide}
use Rattle.policy.specs.Slices.{shown, Sliceable}
use Rattle.policy.specs.Works.{Workable, works_of, freed}
use Rattle.policy.specs.Worked.{works}
use Rattle.policy.specs.Waits.{wait_until, wide_longest}
use Rattle.policy.proofs.worked.worked_promises.Goals as goal

some : (a : ℕ) → a < 2 → 0 < get_or works a 0
some zero h = lit< tt
some (suc zero) h = lit< tt
some (suc (suc a)) h = absurd (omega arith)

few : (a : ℕ) → get_or works a 0 ≤ 4095
few zero = lit≤ tt
few (suc zero) = lit≤ tt
few (suc (suc a)) = lit≤ tt

workable : Workable works
workable = record { some = lit< tt; few = lit≤ tt; least = some; most = λ a _. few a }

fits : (a : ℕ) → wide 5 2 (get_or works a 0) ≤ 65535
fits zero = lit≤ tt
fits (suc zero) = lit≤ tt
fits (suc (suc a)) = lit≤ tt

promised : (p s d x : ℕ) → p ≡ 5 → s ≡ 2 → d ≡ x → shown (wide p s d) (wide p s d) ≡ shown (wide 5 2 x) (wide 5 2 x)
promised p s d x e f g =
    ap (λ y. shown (wide y s d) (wide y s d)) e ∙ ap (λ y. shown (wide 5 y d) (wide 5 y d)) f ∙ ap (λ y. shown (wide 5 2 y) (wide 5 2 y)) g

pub returns : goal.returns
returns c =
    let rows = c.new.result.rows in
    let is : (a : ℕ) → get_or (works_of rows.list.items) a 0 ≡ get_or works a 0 = c.new.ensures.works workable in
    let sliceable : Sliceable (freed rows.list.items) 5 2 = record { one = lit< tt; within = lit≤ tt; fits = λ a. omega (arith, fits a, ap (wide 5 2) (is a)) } in
    let made = c.new-slice.ensures.made.taken sliceable in
    let slice = c.new-slice.result in
    let below : (a : ℕ) → get_or (works_of slice.below.rows.list.items) a 0 ≡ get_or works a 0 = λ a. ap (λ (b : Free). get_or (works_of b.rows.list.items) a 0) c.new-slice.ensures.value.0 ∙ is a in
    record {
      value = (
        c.promise.ensures.value ∙ promised slice.period slice.slots (get_or (works_of slice.below.rows.list.items) 0 0) 2 made.0 made.1 (below 0),
        c.promise-2.ensures.value ∙ promised slice.period slice.slots (get_or (works_of slice.below.rows.list.items) 1 0) 3 made.0 made.1 (below 1),
      );
      shown = record {
        two = refl;
        three = refl;
        two_waits = refl;
        three_waits = refl;
        sooner = refl;
        first = refl;
        first_due = refl;
        second_due = refl;
        goes_on = refl;
        own_due = refl;
        other_due = refl;
        turn = refl;
        last_due = refl;
      };
      laws = λ p s one within. ((λ w d on. wait_until p s one within w d on), (λ d. wide_longest p s one within d));
    }
