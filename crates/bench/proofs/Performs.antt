-- What a call of a list does is what the call itself does. Assumes nothing.
use Rattle.std.proofs.Common.{◌≡◌, ℕ, ◌<◌, ◌≤◌, [], ◌∷◌, Some, None, Ok, Err, Option, Result, MatchResult, IsOkAnd, refl, ap}
use Rattle.policy.specs.declared.meaning.Policy.{Ghosts}
use Rattle.model.specs.Net.{Net}
use Rattle.rates.specs.declared.fault.Fault.{Fault}
use Rattle.rates.specs.declared.fault.Fault.TheVariants.{Absent}
use Rattle.bench.specs.declared.call.Call.{Call}
use Rattle.bench.specs.declared.call.Call.TheVariants.{Tick, Restart}
use Rattle.bench.specs.declared.call.Answer.{Answer}
use Rattle.bench.specs.declared.call.Answer.TheVariants.{Ticked, Restarted}
use Rattle.bench.specs.Sharing.{Stand}
use Rattle.bench.specs.Story.{Serves, Does, ticked, late, restarted}
use Rattle.bench.specs.Calls.{TickIs, RestartIs, QuestionIs, PerformIs}

-- r as an answer
abbrev pub Answers : {T : Type 0} → (T → Answer) → Result T Fault → Result Answer Fault → Type 0
Answers answer r r' = MatchResult r (λ x. r' ≡ Ok (answer x)) (λ e. r' ≡ Err e)

-- what `map` gives, of a closure that gives that answer
pub mapped : {T : Type 0} (answer : T → Answer) (P : T → Answer → Type 0) → ((x : T) (y : Answer) → P x y → y ≡ answer x) → (r : Result T Fault) (r' : Result Answer Fault) →
    MatchResult r (λ x. IsOkAnd r' (P x)) (λ e. r' ≡ Err e) → Answers answer r r'
mapped answer P is (Ok x) (Ok y) h = ap Ok (is x y h)
mapped answer P is (Ok x) (Err e) h = absurd h
mapped answer P is (Err e) r' h = h

module _ {X : Type 0} (m : Ghosts X) (n : Net) (time : ℕ → ℕ) (b z : Stand X) (c : Call) (r' : Result Answer Fault) where
  pub tick_done : (o : Option ℕ) (r : Result (ℕ × ℕ) Fault) → c ≡ Tick → TickIs m n time o b z r → Answers (λ x. Ticked x.0 x.1) r r' → PerformIs m n time o b c r' z
  tick_done (Some a) (Ok x) e d s = absurd (cc d.0)
  tick_done (Some a) (Err f) e d s = let e₀ = d.0 in ((cc), d.1)
  tick_done None (Ok x) e d s = λ h. ((b.policy, d.served) ∷ h, rw (e, s, d.number, d.ended) (ticked d.served z d.early d.ticks))
  tick_done None (Err f) e d s = λ h. (h, rw (e, s, d.0, d.2) (late d.1))

  pub restart_done : (o : Option ℕ) (r : Result Unit Fault) → c ≡ Restart → RestartIs m n time o b z r → Answers (λ _. Restarted) r r' → PerformIs m n time o b c r' z
  restart_done (Some a) (Ok u) e d s = absurd (cc d.0)
  restart_done (Some a) (Err f) e d s = let e₀ = d.0 in ((cc), d.1)
  restart_done None (Ok u) e d s = λ h. ([], rw (e, s) (restarted z d.begins))
  restart_done None (Err f) e d s = absurd d

-- a question of a, where k are there, and f says what each has
module _ {X : Type 0} (m : Ghosts X) (n : Net) (time : ℕ → ℕ) (b : Stand X) (c c' : Call) (r' : Result Answer Fault) (k : ℕ) (f : ℕ → ℕ) (a : ℕ) (answer : ℕ → Answer)
    (there : (h : Serves X) → a < k → Does m n time b h c' (Ok (answer (f a))) b h) (absent : (h : Serves X) → k ≤ a → Does m n time b h c' (Err Absent) b h) where
  pub question_done : (o : Option ℕ) (r : Result ℕ Fault) → c ≡ c' → QuestionIs o k f a r → Answers answer r r' → PerformIs m n time o b c r' b
  question_done (Some w) (Ok x) e d s = absurd (cc d)
  question_done (Some w) (Err x) e d s = ((cc), refl)
  question_done None (Ok x) e d s = λ h. (h, rw (e, s, d.1) (there h d.0))
  question_done None (Err x) e d s = λ h. (h, rw (e, s, d.1) (absent h d.0))
