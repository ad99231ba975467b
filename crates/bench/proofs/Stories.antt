-- The story of a list of calls, as far as it has been made. Assumes nothing.
use Rattle.std.proofs.Common.{◌≡◌, ℕ, ◌+◌, ◌<◌, ◌≤◌, List, [], length, get_or, set, Some, None, Ok, Err, Option, Result, sym, ap, ◌∙◌, subst, inl, inr, add-one, arith, get_or-set_other, get_or-set_same}
use Rattle.std.proofs.lemmas.Bool.{cases_eq}
use Rattle.policy.specs.declared.meaning.Policy.{Ghosts}
use Rattle.graph.specs.declared.graph.Graph.{Graph}
use Rattle.model.specs.Net.{Net}
use Rattle.runs.specs.Seen.{net, times_of}
use Rattle.runs.proofs.Graphs.{graph_fitting, graph_timed}
use Rattle.rates.specs.declared.fault.Fault.{Fault}
use Rattle.rates.specs.declared.fault.Fault.TheVariants.{Works}
use Rattle.rates.specs.Agree.{Lowest}
use Rattle.rates.proofs.Agreements.{lowest_one}
use Rattle.bench.specs.declared.call.Call.{Call}
use Rattle.bench.specs.declared.call.Call.TheVariants.{Tick}
use Rattle.bench.specs.declared.call.Answer.{Answer}
use Rattle.bench.specs.declared.call.Answer.TheVariants.{Restarted}
use Rattle.bench.specs.Sharing.{Stand, Begins}
use Rattle.bench.specs.Story.{Serves, InStep, Does, ticked, late, counted, no_count, held, no_tokens, owed, no_due, restarted, Story, joined, called, Followed}
use Rattle.bench.specs.Calls.{PerformIs}
use Rattle.bench.proofs.Shared.{Means, begins_in_step, ticks_in_step}
use Rattle.bench.proofs.Answered.{joined_so}

-- the answers below i are those of a story, with the bench in step, or the join's refusals
abbrev pub SoFar : {X : Type 0} → Ghosts X → Net → (ℕ → ℕ) → X → List Call → List (Result Answer Fault) → ℕ → Stand X → Option ℕ → Type 0
SoFar {X} m n time p calls answers i z None = (h : Serves X) × Story m n time p (λ j. get_or calls j Tick) (λ j. get_or answers j (Ok Restarted)) i h z × InStep m n time p h z
SoFar m n time p calls answers i z (Some a) = Begins m n time p z × ((j : ℕ) → j < i → get_or answers j (Ok Restarted) ≡ Err (Works a))

same_answers : {X : Type 0} (m : Ghosts X) (n : Net) (time : ℕ → ℕ) (p : X) (call : ℕ → Call) (r r' : ℕ → Result Answer Fault) {k : ℕ} {h : Serves X} {z : Stand X} →
    ((j : ℕ) → j < k → r j ≡ r' j) → Story m n time p call r k h z → Story m n time p call r' k h z
same_answers m n time p call r r' e (joined z b kept) = joined z b kept
same_answers m n time p call r r' e (called k h h' b z s d kept) =
    called k h h' b z (same_answers m n time p call r r' (λ j lt. e j (omega arith)) s) (subst (λ (x : Result Answer Fault). Does m n time b h (call k) x z h') (e k (omega arith)) d) kept

-- over a graph, with its times, of a bench that is joined with p
module _ {X : Type 0} (m : Ghosts X) (means : Means m) (g : Graph) (p : X) where
  abbrev n : Net
  n = net g

  abbrev time : ℕ → ℕ
  time = times_of g

  does_in_step : (h : Serves X) (b : Stand X) {c : Call} {r : Result Answer Fault} {z : Stand X} {h' : Serves X} → InStep m n time p h b → Does m n time b h c r z h' → InStep m n time p h' z
  does_in_step h b i (ticked q z lt t) = ticks_in_step m means n (graph_fitting g).sound time (graph_timed g) p i.agreed h b z q i t
  does_in_step h b i (late e) = i
  does_in_step h b i (counted a e) = i
  does_in_step h b i (no_count a e) = i
  does_in_step h b i (held c e) = i
  does_in_step h b i (no_tokens c e) = i
  does_in_step h b i (owed a e) = i
  does_in_step h b i (no_due a e) = i
  does_in_step h b i (restarted z e) = begins_in_step m means n (graph_fitting g).sound time (graph_timed g) p i.agreed b.policy z i.terms e

  module _ (calls : List Call) where
    pub story_begins : (o : Option ℕ) (answers : List (Result Answer Fault)) (z : Stand X) → Lowest n time (m.view p) o → Begins m n time p z → SoFar m n time p calls answers 0 z o
    story_begins None answers z agreed b = let i = joined_so m means g p z b agreed in ([], joined z b i.kept, i)
    story_begins (Some a) answers z d b = (b, λ j lt. absurd (omega arith))

    pub story_goes_on : (o : Option ℕ) (answers : List (Result Answer Fault)) (i : ℕ) (b z : Stand X) (r : Result Answer Fault) → i < length answers →
        SoFar m n time p calls answers i b o → PerformIs m n time o b (get_or calls i Tick) r z → SoFar m n time p calls (set answers i r) (i + 1) z o
    story_goes_on None answers i b z r lt s f =
        let h = s.0 in
        let h' = (f h).0 in
        let k = does_in_step h b s.2 (f h).1 in
        let before = same_answers m n time p (λ j. get_or calls j Tick) (λ j. get_or answers j (Ok Restarted)) (λ j. get_or (set answers i r) j (Ok Restarted))
        (λ j lt. sym (get_or-set_other answers i j r (Ok Restarted) (omega arith))) s.1 in
        rw add-one (h', called i h h' b z before (subst (λ (x : Result Answer Fault). Does m n time b h (get_or calls i Tick) x z h') (sym (get_or-set_same answers i r (Ok Restarted) lt)) (f h).1) k.kept, k)
    story_goes_on (Some a) answers i b z r lt s f = (
      subst (λ (x : Stand X). Begins m n time p x) (sym f.1) s.0,
      λ j lj. elim (cases_eq j i) [
        | inl same ↦ subst (λ (x : ℕ). get_or (set answers i r) x (Ok Restarted) ≡ Err (Works a)) (sym same) (get_or-set_same answers i r (Ok Restarted) lt ∙ f.0)
        | inr ne ↦ get_or-set_other answers i j r (Ok Restarted) ne ∙ s.1 j (omega arith)
      ],
    )

    pub story_ends : (o : Option ℕ) (answers answers' : List (Result Answer Fault)) (k : ℕ) (z : Stand X) → Lowest n time (m.view p) o → SoFar m n time p calls answers' k z o →
        ((j : ℕ) → k ≤ j → get_or answers' j (Ok Restarted) ≡ get_or answers j (Ok Restarted)) → Followed m n time p calls answers answers' k z
    story_ends None answers answers' k z agreed s rest = record { story = λ _. (s.0, s.1); refused = λ a d. absurd (d.differs (agreed a)); rest = rest }
    story_ends (Some a) answers answers' k z d s rest = record {
      story = λ agreed. absurd (d.differs (agreed a));
      refused = λ b e. (s.0, λ i lt. s.1 i lt ∙ ap (λ x. Err (Works x)) (lowest_one n time (m.view p) a b d e));
      rest = rest;
    }
