-- What the lays of those that start have done. Assumes nothing.
use Rattle.std.proofs.Common.{◌≡◌, ℕ, zero, suc, ◌<◌, ◌≤◌, Bool, true, false, sym, refl, ◌∙◌, subst, inl, inr, arith}
use Rattle.std.proofs.lemmas.Bool.{cases_eq, both_ways}
use Rattle.std.proofs.lemmas.Bool.Decides.{nat_tests}
use Rattle.policy.specs.declared.meaning.Policy.{Ghosts}
use Rattle.policy.specs.Meaning.{View, SameTerms, Laid, layable}
use Rattle.bench.specs.Sharing.{Lays}

pub terms_trans : (u v w : View) → SameTerms u v → SameTerms v w → SameTerms u w
terms_trans u v w h k = record { number = k.number ∙ h.number; work = λ a. k.work a ∙ h.work a; promise = λ a. k.promise a ∙ h.promise a }

pub terms_refl : (u : View) → SameTerms u u
terms_refl u = record { number = refl; work = λ a. refl; promise = λ a. refl }

can_lay : (v : View) (a : ℕ) → a < v.number → v.left a ≡ 0 → layable v a ≡ true
can_lay v a h e = grind (arith, nat_tests)

-- of the actors below k
pub record AllLaid (go : ℕ → Bool) (k : ℕ) (v w : View) : Type 0 where
  pub terms : SameTerms v w
  pub given : (a : ℕ) → a < k → go a ≡ true → w.left a ≡ v.work a
  pub other : (a : ℕ) → (a < k → go a ≡ false) → w.left a ≡ v.left a
  pub no_later : (a : ℕ) → (a < k → go a ≡ false) → w.due a ≤ v.due a

module _ (go : ℕ → Bool) (k : ℕ) (v u : View) (h : AllLaid go k v u) where
  -- the next one starts
  more : (w : View) → go k ≡ true → Laid u w k → AllLaid go (suc k) v w
  more w t l = record {
    terms = terms_trans v u w h.terms l.terms;
    given = λ a lt e. elim (cases_eq a k) [
      | inl same ↦ subst (λ (x : ℕ). w.left x ≡ v.work x) (sym same) (l.given ∙ h.terms.work k)
      | inr ne ↦ l.others a ne ∙ h.given a (omega arith) e
    ];
    other = λ a f. elim (cases_eq a k) [
      | inl same ↦ absurd (both_ways (go k) (subst (λ (x : ℕ). go x ≡ false) same (f (omega arith))) t)
      | inr ne ↦ l.others a ne ∙ h.other a (λ lt. f (omega arith))
    ];
    no_later = λ a f. elim (cases_eq a k) [
      | inl same ↦ absurd (both_ways (go k) (subst (λ (x : ℕ). go x ≡ false) same (f (omega arith))) t)
      | inr ne ↦ omega (arith, l.no_later a ne, h.no_later a (λ lt. f (omega arith)))
    ];
  }

  -- or does not
  less : go k ≡ false → AllLaid go (suc k) v u
  less t = record {
    terms = h.terms;
    given = λ a lt e. elim (cases_eq a k) [
      | inl same ↦ absurd (both_ways (go k) t (subst (λ (x : ℕ). go x ≡ true) same e))
      | inr ne ↦ h.given a (omega arith) e
    ];
    other = λ a f. h.other a (λ lt. f (omega arith));
    no_later = λ a f. h.no_later a (λ lt. f (omega arith));
  }

-- where each that starts can be laid
pub all_laid : {X : Type 0} (m : Ghosts X) → ((p q : X) (a : ℕ) → m.lays p a q → Laid (m.view p) (m.view q) a) → (go : ℕ → Bool) (k : ℕ) (p q : X) →
    ((a : ℕ) → a < k → go a ≡ true → (a < (m.view p).number) × ((m.view p).left a ≡ 0)) → Lays m go k p q → AllLaid go k (m.view p) (m.view q)
all_laid {X} m laid go zero p q can h = subst (λ (x : X). AllLaid go 0 (m.view p) (m.view x)) (sym h)
    (record { terms = terms_refl (m.view p); given = λ a lt e. absurd (omega arith); other = λ a f. refl; no_later = λ a f. omega arith })
all_laid {X} m laid go (suc k) p q can h = by (all_laid m laid go k p h.0 (λ a lt e. can a (omega arith) e) h.1) (go k) refl
  where
    by : AllLaid go k (m.view p) (m.view h.0) → (b : Bool) → go k ≡ b → AllLaid go (suc k) (m.view p) (m.view q)
    by before true e =
        let (there, idle) = can k (omega arith) e in
        let r = h.0 in
        let ok = can_lay (m.view r) k (omega (arith, before.terms.number)) (before.other k (λ lt. absurd (omega arith)) ∙ idle) in
        more go k (m.view p) (m.view r) before (m.view q) e (laid r q k ((h.2 e).done ok))
    by before false e = subst (λ (x : X). AllLaid go (suc k) (m.view p) (m.view x)) (sym (h.3 e)) (less go k (m.view p) (m.view h.0) before e)
