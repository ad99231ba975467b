use Rattle.std.proofs.Common.{◌≡◌, ◌<◌, ◌++◌, cond, length, get_or, drop, sym, ap, ◌∙◌, arith, length-set}
use Rattle.std.proofs.lemmas.List.{length-append, get_or_append_left, set-append_left}
use Rattle.runs.specs.Firings.{left_of}
use Rattle.runs.specs.Loops.{flag}
use Rattle.runs.specs.Nets.{at}
use Rattle.runs.specs.declared.standing.Doing.{Doing}
use Rattle.runs.specs.Standings.{idle, state_of}
use Rattle.runs.proofs.Marks.{set_are, set_stay, set_all}
use Rattle.runs.proofs.standing.Standing.begin.Goals as goal
use Rattle.runs.proofs.standing.Standing.begin.Goals.{then-go-a, else-go-a}

pub loop-a-preserved : goal.loop-a-preserved
loop-a-preserved c =
    let i = c.loop-a.a in
    let front = c.loop-a.doing-items in
    let rest = drop c.args.actors c.args.self.now.doing in
    let ds = front ++ rest in
    let v = c.loop-a.invariant.1 in
    let s = state_of c.args.self.now in
    let go = c.args.go.now in
    let times = c.args.times.now in
    let in_front : i < length front = omega (arith, c.loop-a.invariant.0) in
    let lt : i < length ds = omega (arith, length-append front rest) in
    let here : get_or ds i idle ≡ get_or front i idle = get_or_append_left front rest idle i in_front in
    elim c.if-go-a.branch [
      | then-go-a w ↦
          let x = w.start.new.self in
          rw (w.doing-items-is, ← set-append_left front rest i x in_front) (
            simp length-set c.loop-a.invariant.0,
            record {
              tokens = v.tokens;
              free = v.free;
              left_are = set_are (λ k (d : Doing). left_of d.firing ≡ cond (flag go k) (at times k) (s.left k)) ds idle i x lt v.left_are
                  (w.start.ensures.left ∙ sym (ap (λ b. cond b (at times i) (s.left i)) w.if-go-a.true));
              left_stay = set_stay (λ k (d : Doing). left_of d.firing ≡ s.left k) ds idle i x lt v.left_stay;
              ended = set_all (λ k (d : Doing). d.ended ≡ s.ended k) ds idle i x lt v.ended (w.start.ensures.ended ∙ sym (ap (λ (d : Doing). d.ended) here) ∙ v.ended i);
            },
          )
      | else-go-a w ↦
          let x = get_or front i idle in
          rw (w.doing-items-is, ← set-append_left front rest i x in_front) (
            simp length-set c.loop-a.invariant.0,
            record {
              tokens = v.tokens;
              free = v.free;
              left_are = set_are (λ k (d : Doing). left_of d.firing ≡ cond (flag go k) (at times k) (s.left k)) ds idle i x lt v.left_are
                  (sym (ap (λ (d : Doing). left_of d.firing) here) ∙ v.left_stay i (omega arith) ∙ sym (ap (λ b. cond b (at times i) (s.left i)) w.if-go-a.false));
              left_stay = set_stay (λ k (d : Doing). left_of d.firing ≡ s.left k) ds idle i x lt v.left_stay;
              ended = set_all (λ k (d : Doing). d.ended ≡ s.ended k) ds idle i x lt v.ended (sym (ap (λ (d : Doing). d.ended) here) ∙ v.ended i);
            },
          )
    ]
