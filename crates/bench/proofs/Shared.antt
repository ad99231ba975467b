-- A bench keeps in step with its policy, and between the promised and the unhindered run. Assumes nothing.
use Rattle.std.proofs.Common.{◌≡◌, ℕ, suc, ◌+◌, ◌<◌, Bool, true, false, cond, ◌&&◌, eqb, ltb, [], ◌∷◌, length, sym, refl, ap, ◌∙◌, subst, inl, inr, add-one, arith}
use Rattle.std.proofs.lemmas.Bool.{cases_lt}
use Rattle.std.proofs.lemmas.Bool.Decides.{nat_tests}
use Rattle.policy.specs.declared.meaning.Policy.{Ghosts}
use Rattle.policy.specs.Meaning.{Sound as SoundView, SameTerms, Served, Cleared, Laid}
use Rattle.model.specs.Net.{Net, Sound, Timed, State, when, ready, start, finish, tick, initial_state}
use Rattle.model.specs.Laws.{Due, Serves as ServesDue, Paced}
use Rattle.model.proofs.Ready.{ready_true}
use Rattle.model.proofs.Alikes.{paced_matches}
use Rattle.model.proofs.Paces.{pace}
use Rattle.runs.specs.Seen.{taken}
use Rattle.rates.specs.Agree.{Agreed}
use Rattle.rates.proofs.Agreements.{promised_timed}
use Rattle.bench.specs.Sharing.{Stand, Lays, Begins, Ticks}
use Rattle.bench.specs.Story.{Serves, ended_by, InStep}
use Rattle.bench.proofs.Lays.{terms_trans, terms_refl, AllLaid, all_laid}

-- the laws that every policy shows
pub record Means {X : Type 0} (m : Ghosts X) : Type 0 where
  pub sound : (p : X) → SoundView (m.view p)
  pub ticked : (p q : X) → m.ticks p q → Served (m.view p) (m.view q)
  pub laid : (p q : X) (a : ℕ) → m.lays p a q → Laid (m.view p) (m.view q) a
  pub cleared : (p q : X) → m.clears p q → Cleared (m.view p) (m.view q)

-- what is taken is what the policy has, where they were in step
pub taken_is : (s : State) (lp lq : ℕ → ℕ) (a : ℕ) → s.left a ≡ lp a → (lp a ≡ 0 → lq a ≡ 0) → taken s lq a ≡ lq a
taken_is s lp lq a e r = elim (cases_lt 0 (s.left a)) [ inl on ↦ grind (arith, nat_tests) | inr off ↦ let z = r (omega arith) in grind (arith, nat_tests) ]

pub at_rest : (l : ℕ) → ltb 0 l ≡ false → l ≡ 0
at_rest l h = grind (arith, nat_tests)

not_go : (b : Bool) (l : ℕ) → (b ≡ true → l ≡ 0) → 0 < l → b ≡ false
not_go true l h on = absurd (omega (arith, h refl))
not_go false l h on = refl

counts_on : (x y u v e f : ℕ) → x ≡ y → u ≡ v → e ≡ f → e + when (ltb 0 x && eqb u 0) 1 ≡ f + when (ltb 0 y && eqb v 0) 1
counts_on x y u v e f h k g = rw (h, k, g)

module _ {X : Type 0} (m : Ghosts X) (means : Means m) (n : Net) (sound : Sound n) (time : ℕ → ℕ) (pos : Timed n time) (p₀ : X) (agreed : Agreed n time (m.view p₀)) where
  abbrev promise : ℕ → ℕ
  promise = (m.view p₀).promise

  pro : Timed n promise
  pro = promised_timed n time (m.view p₀) pos (means.sound p₀) agreed

  -- starts: from the policy p, which has the ticks left l, to q
  module _ (p q : X) (terms : SameTerms (m.view p₀) (m.view p)) (go : ℕ → Bool) (l : ℕ → ℕ) (same : (a : ℕ) → a < n.actors → l a ≡ (m.view p).left a)
      (idle : (a : ℕ) → a < n.actors → go a ≡ true → l a ≡ 0) (lays : Lays m go n.actors p q) where
    laid_now : AllLaid go n.actors (m.view p) (m.view q)
    laid_now = all_laid m means.laid go n.actors p q (λ a ha e. (omega (arith, (agreed a).there ha, terms.number), sym (same a ha) ∙ idle a ha e)) lays

    left_now : (a : ℕ) → a < n.actors → cond (go a) (time a) (l a) ≡ (m.view q).left a
    left_now a ha = by (go a) refl
      where
        by : (b : Bool) → go a ≡ b → cond b (time a) (l a) ≡ (m.view q).left a
        by true e = sym (laid_now.given a ha e ∙ (terms.work a ∙ (agreed a).same))
        by false e = same a ha ∙ sym (laid_now.other a (λ _. e))

    due_now : (s : State) → ((a : ℕ) → a < n.actors → s.left a ≡ cond (go a) (time a) (l a)) → Due n promise s (m.view q).due
    due_now s e = record {
      covers = λ a ha. omega (arith, e a ha, left_now a ha, (means.sound q).left_due a);
      most = λ a ha. omega (arith, (means.sound q).due_promise a, laid_now.terms.promise a, terms.promise a);
      none = λ a ha h. (means.sound q).due_zero a (omega (arith, e a ha, left_now a ha));
    }

    terms_now : SameTerms (m.view p₀) (m.view q)
    terms_now = terms_trans (m.view p₀) (m.view p) (m.view q) terms laid_now.terms

  -- the counts lie between, where the pace is kept
  between : (h : Serves X) (z : Stand X) → z.tick ≡ length h → ((a : ℕ) → a < n.actors → z.state.left a ≡ (m.view z.policy).left a) →
      ((a : ℕ) → a < n.actors → z.state.ended a ≡ ended_by m h a) → SameTerms (m.view p₀) (m.view z.policy) → Due n promise z.state (m.view z.policy).due →
      Paced n time promise z.tick z.state (m.view z.policy).due → InStep m n time p₀ h z
  between h z ticks left counts terms d paced =
      let bounds = pace.counts_between n time promise z.tick z.state (m.view z.policy).due paced d in
      record {
        agreed = agreed;
        terms = terms;
        paced = paced;
        kept = record { ticks = ticks; left = left; counts = counts; at_least = λ a ha. (bounds a ha).0; at_most = λ a ha. (bounds a ha).1 };
      }

  -- tick 0, with the works and promises of p₀
  pub begins_in_step : (p : X) (z : Stand X) → SameTerms (m.view p₀) (m.view p) → Begins m n time p z → InStep m n time p₀ [] z
  begins_in_step p z terms b =
      let c = b.cleared in
      let q = z.policy in
      let cl = means.cleared p c b.clears in
      let go = ready n (initial_state n) in
      let tc = terms_trans (m.view p₀) (m.view p) (m.view c) terms cl.terms in
      let l : ℕ → ℕ = λ a. 0 in
      let same : (a : ℕ) → a < n.actors → l a ≡ (m.view c).left a = λ a ha. sym (cl.none a) in
      let idle : (a : ℕ) → a < n.actors → go a ≡ true → l a ≡ 0 = λ a ha e. refl in
      let s = start n time (initial_state n) in
      let d = due_now c q tc go l same idle b.lays s (λ a ha. refl) in
      let d' = due_now c q tc go l same idle b.lays z.state (λ a ha. b.starts.alike.left a ha) in
      let paced = paced_matches n sound time promise 0 z.state s (m.view q).due b.starts (pace.begins n time promise (m.view q).due sound pos pro d) in
      between [] z b.first (λ a ha. b.starts.alike.left a ha ∙ left_now c q tc go l same idle b.lays a ha) (λ a ha. b.starts.ended a ha)
      (terms_now c q tc go l same idle b.lays) d' (subst (λ (t : ℕ). Paced n time promise t z.state (m.view q).due) (sym b.first) paced)

  -- a later tick
  pub ticks_in_step : (h : Serves X) (b z : Stand X) (q : X) → InStep m n time p₀ h b → Ticks m n time b q z → InStep m n time p₀ ((b.policy, q) ∷ h) z
  ticks_in_step h b z q i t =
      let p = b.policy in
      let w = z.policy in
      let sv = means.ticked p q t.serves in
      let l = taken b.state (m.view q).left in
      let go = ready n (finish n l b.state) in
      let tq = terms_trans (m.view p₀) (m.view p) (m.view q) i.terms sv.terms in
      let same : (a : ℕ) → a < n.actors → l a ≡ (m.view q).left a = λ a ha. taken_is b.state (m.view p).left (m.view q).left a (i.kept.left a ha) (sv.rest a) in
      let idle : (a : ℕ) → a < n.actors → go a ≡ true → l a ≡ 0 = λ a ha e. at_rest (l a) (ready_true n (finish n l b.state) a e).0 in
      let s = tick n time l b.state in
      let lw = left_now q w tq go l same idle t.lays in
      let al = laid_now q w tq go l same idle t.lays in
      let d = due_now q w tq go l same idle t.lays s (λ a ha. refl) in
      let d' = due_now q w tq go l same idle t.lays z.state (λ a ha. t.goes.alike.left a ha) in
      let v : ServesDue n b.state l (m.view p).due (m.view w).due = record {
        falls = λ a ha. omega (arith, same a ha, i.kept.left a ha, sv.falls a);
        slow = λ a ha. omega (arith, same a ha, i.kept.left a ha, sv.slow a);
        nearer = λ a ha on. omega (arith, sv.nearer a (omega (arith, same a ha, sv.falls a)), al.no_later a (λ _. not_go (go a) (l a) (idle a ha) on));
      } in
      let paced = paced_matches n sound time promise (suc b.tick) z.state s (m.view w).due t.goes
      (pace.goes n time promise b.tick b.state l (m.view p).due (m.view w).due sound pos pro i.paced v d) in
      let next : z.tick ≡ suc b.tick = t.next ∙ add-one b.tick in
      between ((p, q) ∷ h) z (next ∙ ap suc i.kept.ticks) (λ a ha. t.goes.alike.left a ha ∙ lw a ha)
      (λ a ha. t.goes.ended a ha ∙ counts_on (b.state.left a) ((m.view p).left a) (l a) ((m.view q).left a) (b.state.ended a) (ended_by m h a) (i.kept.left a ha) (same a ha) (i.kept.counts a ha))
      (terms_now q w tq go l same idle t.lays) d' (subst (λ (u : ℕ). Paced n time promise u z.state (m.view w).due) (sym next) paced)

pub joins_in_step : {X : Type 0} (m : Ghosts X) → Means m → (n : Net) → Sound n → (time : ℕ → ℕ) → Timed n time → (p : X) (z : Stand X) →
    Begins m n time p z → Agreed n time (m.view p) → InStep m n time p [] z
joins_in_step m means n sound time pos p z b agreed = begins_in_step m means n sound time pos p agreed p z (terms_refl (m.view p)) b
