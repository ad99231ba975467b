-- Where nothing is under way after the starts, nothing starts any more. Assumes nothing.
use Rattle.std.proofs.Common.{◌≡◌, ℕ, zero, suc, ◌<◌, ◌≤◌, false, ◌⊎◌, refl, ◌∙◌, subst, inl, inr, arith}
use Rattle.std.proofs.lemmas.Bool.{cases_lt, cases_Bool}
use Rattle.model.specs.Net.{Net, Sound, Timed, State, started, ready, finish, next, fallen, run}
use Rattle.model.specs.Laws.{Balanced, Blocked}
use Rattle.model.specs.Meaning.{Stands}
use Rattle.model.proofs.Balance.{finish_started, finish_balanced, run_balanced}
use Rattle.model.proofs.Ready.{ready_true, lets_true}
use Rattle.model.proofs.Runs.{idle, run_again}

module _ (n : Net) (sound : Sound n) where
  pub blocked_not : (s : State) → Balanced n s → (a : ℕ) → Blocked n (started s) s.ended a → ready n s a ≡ false
  blocked_not s b a (c, hc, why) = elim (cases_Bool (ready n s a)) [
    | inr not_ready ↦ not_ready
    | inl go ↦ absurd (elim why [
      | inl (de, lack) ↦ omega (arith, b.tokens c hc, (lets_true n s a c ((ready_true n s a go).1 c hc)).0 de)
      | inr (so, lack) ↦ omega (arith, b.free c hc, (lets_true n s a c ((ready_true n s a go).1 c hc)).1 so)
    ])
  ]

  module _ (time : ℕ → ℕ) (s : State) (b : Balanced n s) (still : (a : ℕ) → a < n.actors → s.left a ≡ 0) where
    rest : State
    rest = finish n (fallen s) s

    rest_ended : (a : ℕ) → a < n.actors → rest.ended a ≡ s.ended a
    unfolding rest
    rest_ended a ha = rw (still a ha) (omega arith)

    rest_started : (a : ℕ) → started rest a ≡ started s a
    unfolding rest
    rest_started a = finish_started n (fallen s) s a (omega arith)

    rest_blocked : (a : ℕ) → Blocked n (started s) s.ended a → Blocked n (started rest) rest.ended a
    rest_blocked a (c, hc, why) = (
      c,
      hc,
      elim why [
        | inl (de, lack) ↦ inl (de, rw (rest_ended (n.source c) (sound.source_in c hc), rest_started (n.dest c)) lack)
        | inr (so, lack) ↦ inr (so, rw (rest_ended (n.dest c) (sound.dest_in c hc), rest_started (n.source c)) lack)
      ],
    )

    stays : (a : ℕ) → a < n.actors → (s.ended a < started s a) ⊎ Blocked n (started s) s.ended a →
        ((next n time s).left a ≡ 0) × ((next n time s).ended a ≡ s.ended a)
    unfolding rest
    stays a ha again = elim again [
      | inl on ↦ absurd (omega (arith, idle s a (still a ha)))
      | inr why ↦ (rw (blocked_not rest (finish_balanced n sound (fallen s) s (λ x hx. omega arith) b) a (rest_blocked a why), still a ha), rest_ended a ha)
    ]

module _ (n : Net) (sound : Sound n) (time : ℕ → ℕ) (pos : Timed n time) (f : ℕ) (none : (a : ℕ) → a < n.actors → (run n time f).left a ≡ 0) where
  Still : ℕ → Type 0
  Still t = (a : ℕ) → a < n.actors → ((run n time t).left a ≡ 0) × ((run n time t).ended a ≡ (run n time f).ended a)

  from_f : (t : ℕ) → f ≡ t → Still t
  unfolding Still
  from_f t e = subst Still e (λ a ha. (none a ha, refl))

  stills : (t : ℕ) → f ≤ t → Still t
  unfolding Still
  stills zero h = from_f 0 (omega arith)
  stills (suc t) h = elim (cases_lt t f) [
    | inl new ↦ from_f (suc t) (omega arith)
    | inr old ↦ λ a ha.
        let before = stills t old in
        let (left, ended) = stays n sound time (run n time t) (run_balanced n sound time pos t) (λ b hb. (before b hb).0) a ha (run_again n sound time pos t a ha) in
        (left, ended ∙ (before a ha).1)
  ]

  pub stands : Stands n time f
  unfolding Still
  stands t a h ha = stills t h a ha
