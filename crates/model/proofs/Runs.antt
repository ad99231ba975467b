-- The run of a graph is legal and eager. Assumes nothing.
use Rattle.std.proofs.Common.{◌≡◌, ℕ, zero, suc, ◌+◌, ◌<◌, ◌≤◌, Bool, true, false, ◌⊎◌, refl, subst, inl, inr, mul-le-mul_left, arith}
use Rattle.std.proofs.lemmas.Bool.{cases_lt}
use Rattle.std.proofs.lemmas.Bool.Decides.{nat_tests}
use Rattle.model.specs.Net.{Net, Sound, Timed, State, started, ready, start, finish, tick, initial_state, fallen, run}
use Rattle.model.specs.Laws.{Balanced, Fed, Blocked, counts, Legal, Eager, RunFits}
use Rattle.model.proofs.Balance.{start_started, finish_balanced, run_balanced, initial_balanced}
use Rattle.model.proofs.Ready.{ready_false, lets_false}

pub balanced_fed : (n : Net) (s : State) → Balanced n s → Fed n (started s) s.ended
balanced_fed n s b = record { tokens = λ c hc. omega (arith, b.tokens c hc); places = λ c hc. omega (arith, b.free c hc) }

pub single : (s : State) (a : ℕ) → started s a ≤ s.ended a + 1
single s a = grind (arith, nat_tests)

pub idle : (s : State) (a : ℕ) → s.left a ≡ 0 → started s a ≡ s.ended a
idle s a h = grind (arith, nat_tests)

-- once the ready have started, an actor is at work or blocked
pub start_again : (n : Net) → Sound n → (time : ℕ → ℕ) → Timed n time → (s : State) → Balanced n s → (a : ℕ) → a < n.actors →
    let z = start n time s in (z.ended a < started z a) ⊎ Blocked n (started z) z.ended a
start_again n sound time pos s b a ha = go (ready n s a) refl
  where
    up : (x : ℕ) → x < n.actors → started s x ≤ started (start n time s) x
    up x hx = omega (arith, start_started n time s x (pos x hx))

    go : (r : Bool) → ready n s a ≡ r → let z = start n time s in (z.ended a < started z a) ⊎ Blocked n (started z) z.ended a
    go true e = inl (rw (start_started n time s a (pos a ha), e) (omega arith))
    go false e = elim (ready_false n s a e) [
      | inl w ↦ inl (rw (start_started n time s a (pos a ha), w) (omega arith))
      | inr (c, hc, f) ↦ inr (
        c,
        hc,
        elim (lets_false n s a c f) [
          | inl (de, few) ↦ inl (de, omega (arith, b.tokens c hc, mul-le-mul_left (n.q c) (up (n.dest c) (sound.dest_in c hc))))
          | inr (so, few) ↦ inr (so, omega (arith, b.free c hc, mul-le-mul_left (n.p c) (up (n.source c) (sound.source_in c hc))))
        ],
      )
    ]

-- What a tick does to one actor: e ended, s started and l left come to e', s' and l', the new ticks left before the starts being m.
pub record Ticked (time m e s l e' s' l' : ℕ) : Type 0 where
  pub rises : e ≤ e'
  pub own : e' ≤ s
  pub near : s ≤ e' + 1
  pub idle : m ≡ 0 → e' ≡ s
  pub on : 0 < m → s ≡ e' + 1
  pub works : (e' ≡ e) ⊎ (m ≡ 0)
  pub starts : ((s' ≡ s) × (l' ≡ m)) ⊎ ((s' ≡ s + 1) × (l' ≡ time) × (m ≡ 0))

pub ticked : (n : Net) (time left : ℕ → ℕ) (s : State) (a : ℕ) → 0 < time a → left a ≤ s.left a →
    let z = tick n time left s in Ticked (time a) (left a) (s.ended a) (started s a) (s.left a) (z.ended a) (started z a) (z.left a)
ticked n time left s a pos falls = record {
  rises = omega arith;
  own = grind (arith, nat_tests);
  near = grind (arith, nat_tests);
  idle = grind (arith, nat_tests);
  on = grind (arith, nat_tests);
  works = grind (arith, nat_tests);
  starts = grind (arith, nat_tests);
}

module _ (n : Net) (sound : Sound n) (time : ℕ → ℕ) (pos : Timed n time) where
  abbrev at : ℕ → State
  at = run n time

  stepped : (t a : ℕ) → a < n.actors → Ticked (time a) (fallen (at t) a) ((at t).ended a) (started (at t) a) ((at t).left a) ((at (suc t)).ended a) (started (at (suc t)) a) ((at (suc t)).left a)
  stepped t a ha = ticked n time (fallen (at t)) (at t) a (pos a ha) (omega arith)

  first : (a : ℕ) → a < n.actors → ((at 0).ended a ≡ 0) × (((started (at 0) a ≡ 0) × ((at 0).left a ≡ 0)) ⊎ ((started (at 0) a ≡ 1) × ((at 0).left a ≡ time a)))
  first a ha = let h = pos a ha in (refl, grind (arith, nat_tests))

  pub run_again : (t a : ℕ) → a < n.actors → let z = at t in (z.ended a < started z a) ⊎ Blocked n (started z) z.ended a
  run_again zero = start_again n sound time pos (initial_state n) (initial_balanced n)
  run_again (suc t) = start_again n sound time pos (finish n (fallen (at t)) (at t))
      (finish_balanced n sound (fallen (at t)) (at t) (λ a ha. omega arith) (run_balanced n sound time pos t))

  -- a tick ends one firing of an actor at most
  pub run_rises : (t a : ℕ) → a < n.actors → ((at t).ended a ≤ (at (suc t)).ended a) × ((at (suc t)).ended a ≤ (at t).ended a + 1)
  run_rises t a ha = let x = stepped t a ha in (x.rises, omega (arith, x.own, single (at t) a))

  pub run_grows : (s t a : ℕ) → a < n.actors → s ≤ t → (at s).ended a ≤ (at t).ended a
  run_grows s zero a ha h = subst (λ x. (at x).ended a ≤ (at 0).ended a) (let e : 0 ≡ s = omega arith in e) (omega arith)
  run_grows s (suc t) a ha h = elim (cases_lt t s) [
    | inl new ↦ subst (λ x. (at x).ended a ≤ (at (suc t)).ended a) (let e : suc t ≡ s = omega arith in e) (omega arith)
    | inr old ↦ omega (arith, run_grows s t a ha old, (run_rises t a ha).0)
  ]

  -- each firing takes a tick or more, so that a count never passes the tick's number
  pub run_few : (t a : ℕ) → a < n.actors → (at t).ended a ≤ t
  run_few zero a ha = omega arith
  run_few (suc t) a ha = omega (arith, run_few t a ha, (run_rises t a ha).1)

  pub run_left : (t a : ℕ) → a < n.actors → (at t).left a ≤ time a
  run_left zero a ha = omega (arith, first a ha)
  run_left (suc t) a ha = omega (arith, run_left t a ha, stepped t a ha)

  -- the k-th firing began long enough ago
  Began : ℕ → ℕ → ℕ → Type 0
  Began t a k = (s : ℕ) × (k ≤ started (at s) a) × (s + time a ≤ t + (at t).left a) × (k ≤ (at t).ended a → s + time a ≤ t)

  began : (t a k : ℕ) → a < n.actors → 0 < k → k ≤ started (at t) a → Began t a k
  unfolding Began
  began zero a k ha some h = let f = first a ha in (0, h, omega arith, omega arith)
  began (suc t) a k ha some h = elim (cases_lt (started (at t) a) k) [
    | inl new ↦ let x = stepped t a ha in (suc t, h, omega arith, omega arith)
    | inr old ↦
        let x = stepped t a ha in
        let (s, by, since, done) = began t a k ha some old in
        (s, by, omega arith, λ h. elim x.works [ inl same ↦ let z = done (omega arith) in omega arith | inr off ↦ omega arith ])
  ]

  pub run_legal : Legal n time (counts at)
  unfolding Began
  run_legal = record {
    fed = λ t. balanced_fed n (at t) (run_balanced n sound time pos t);
    single = λ t a ha. single (at t) a;
    long = λ t a k ha some h. let (s, by, since, done) = began t a k ha some (omega (arith, own_started t a)) in (s, done h, by);
  }
    where
      own_started : (t a : ℕ) → (at t).ended a ≤ started (at t) a
      own_started t a = omega arith

  -- j ticks after t, what was started at t has ended, or has j fewer ticks left
  Soon : ℕ → ℕ → ℕ → ℕ → Type 0
  Soon t a j u = (started (at t) a ≤ (at u).ended a) ⊎ ((started (at t) a ≤ started (at u) a) × ((at u).left a + j ≤ time a))

  soon : (t a j u : ℕ) → a < n.actors → u ≡ t + j → Soon t a j u
  unfolding Soon
  soon t a zero u ha e = subst (λ x. Soon t a 0 x) (let f : t ≡ u = omega arith in f) (inr (omega arith, omega (arith, run_left t a ha)))
  soon t a (suc j) zero ha e = absurd (omega arith)
  soon t a (suc j) (suc u) ha e =
      let x = stepped u a ha in
      elim (soon t a j u ha (omega arith)) [
        | inl done ↦ inl (omega arith)
        | inr (by, near) ↦ elim (cases_lt 0 (fallen (at u) a)) [ inl on ↦ inr (omega arith, omega arith) | inr off ↦ inl (omega arith) ]
      ]

  pub run_eager : Eager n time (counts at)
  unfolding Soon
  run_eager = record {
    again = run_again;
    short = λ t a ha. elim (soon t a (time a) (t + time a) ha refl) [
      | inl done ↦ done
      | inr (by, near) ↦ omega (arith, idle (at (t + time a)) a (omega arith))
    ];
    grows = run_grows;
  }

pub run_fits : RunFits
run_fits = record { legal = λ n time sound pos. run_legal n sound time pos; eager = λ n time sound pos. run_eager n sound time pos }
