-- One run stays ahead of another, tick by tick. Assumes nothing.
use Rattle.std.proofs.Common.{◌≡◌, ℕ, ◌+◌, ◌<◌, ◌≤◌, ◌⊎◌, inl, inr, arith}
use Rattle.std.proofs.lemmas.Bool.{cases_lt}
use Rattle.std.proofs.lemmas.Bool.Decides.{nat_tests}
use Rattle.model.specs.Net.{Net, Sound, Timed, State, started, start, finish, tick, initial_state}
use Rattle.model.specs.Laws.{Balanced, Ahead, Due}
use Rattle.model.proofs.Balance.{start_balanced, finish_balanced}
use Rattle.model.proofs.Law.{starts}
use Rattle.model.proofs.Runs.{balanced_fed, single, idle, start_again, Ticked, ticked}

at_work : (s : State) (a : ℕ) → 0 < s.left a → started s a ≡ s.ended a + 1
at_work s a h = grind (arith, nat_tests)

pub ahead_ended : (n : Net) (f g : State) (due : ℕ → ℕ) (a : ℕ) → a < n.actors → f.left a ≤ due a → Ahead n f due g → g.ended a ≤ f.ended a
ahead_ended n f g due a ha covers h = elim (h a ha) [
  | inl less ↦ omega (arith, single f a)
  | inr (same, near) ↦ elim (cases_lt 0 (g.left a)) [
    | inl on ↦ omega (arith, single f a, at_work g a on)
    | inr off ↦ omega (arith, idle f a (omega arith))
  ]
]

-- the step for one actor, in numbers: f has due ticks to go, and then due'
module _ {tf mf ef sf lf ef' sf' lf' tg mg eg sg lg eg' sg' lg' : ℕ} (due due' : ℕ) (xf : Ticked tf mf ef sf lf ef' sf' lf') (xg : Ticked tg mg eg sg lg eg' sg' lg')
    (h : (sg < sf) ⊎ ((sg ≡ sf) × (due ≤ lg))) (slow : lg ≤ mg + 1) (nearer : 0 < mf → due' + 1 ≤ due) (covers : lf' ≤ due') where
  step_ends : eg' ≤ ef'
  step_ends = elim (cases_lt 0 mf) [ inl on ↦ elim (cases_lt 0 mg) [ inl on' ↦ omega arith | inr off ↦ omega arith ] | inr off ↦ omega arith ]

  step_starts : sg' ≤ sf' → due' ≤ tg → (lf' ≡ 0 → due' ≡ 0) → (sg' < sf') ⊎ ((sg' ≡ sf') × (due' ≤ lg'))
  step_starts le most none = elim (cases_lt sg' sf') [
    | inl less ↦ inl less
    | inr same ↦ inr (
      omega arith,
      elim xf.starts [
        | inl on ↦ elim (cases_lt 0 mf) [ inl on ↦ omega arith | inr off ↦ omega (arith, none (omega arith)) ]
        | inr new ↦ omega arith
      ],
    )
  ]

module _ (n : Net) (sound : Sound n) (timef timeg : ℕ → ℕ) (posf : Timed n timef) (posg : Timed n timeg) where
  pub ahead_begin : (due : ℕ → ℕ) → Due n timeg (start n timef (initial_state n)) due → Ahead n (start n timef (initial_state n)) due (start n timeg (initial_state n))
  ahead_begin due new a ha =
      let pf = posf a ha in
      let pg = posg a ha in
      let most = new.most a ha in
      let none = new.none a ha in
      inr (grind (arith, nat_tests), grind (arith, nat_tests))

  pub ahead_tick : (f g : State) (lf lg due due' : ℕ → ℕ) → Balanced n f → Balanced n g →
      ((a : ℕ) → a < n.actors → lf a ≤ f.left a) → ((a : ℕ) → a < n.actors → lg a ≤ g.left a) → ((a : ℕ) → a < n.actors → g.left a ≤ lg a + 1) →
      ((a : ℕ) → a < n.actors → 0 < lf a → due' a + 1 ≤ due a) → Due n timeg (tick n timef lf f) due' →
      Ahead n f due g → Ahead n (tick n timef lf f) due' (tick n timeg lg g)
  ahead_tick f g lf lg due due' bf bg falls-f falls-g slow nearer new h a ha =
      step_starts (due a) (due' a) (xf a ha) (xg a ha) (h a ha) (slow a ha) (nearer a ha) (new.covers a ha)
      (starts n (started f2) f2.ended (started g2) g2.ended sound (balanced_fed n g2 (start_balanced n sound timeg posg _ (finish_balanced n sound lg g falls-g bg)))
      (λ b hb. step_ends (due b) (due' b) (xf b hb) (xg b hb) (h b hb) (slow b hb) (nearer b hb) (new.covers b hb))
      a ha (single g2 a) (start_again n sound timef posf (finish n lf f) (finish_balanced n sound lf f falls-f bf) a ha))
      (new.most a ha) (new.none a ha)
    where
      f2 : State
      f2 = tick n timef lf f

      g2 : State
      g2 = tick n timeg lg g

      xf : (b : ℕ) → b < n.actors → Ticked (timef b) (lf b) (f.ended b) (started f b) (f.left b) (f2.ended b) (started f2 b) (f2.left b)
      xf b hb = ticked n timef lf f b (posf b hb) (falls-f b hb)

      xg : (b : ℕ) → b < n.actors → Ticked (timeg b) (lg b) (g.ended b) (started g b) (g.left b) (g2.ended b) (started g2 b) (g2.left b)
      xg b hb = ticked n timeg lg g b (posg b hb) (falls-g b hb)
