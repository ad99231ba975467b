use Rattle.std.proofs.Common.{◌≡◌, ◌+◌, ◌<◌, ◌++◌, cond, ◌&&◌, eqb, ltb, Bool, false, length, get_or, drop, sym, ap, ◌∙◌, ap₂, arith, length-set}
use Rattle.std.proofs.lemmas.List.{length-append, get_or_append_left, set-append_left}
use Rattle.model.specs.Net.{when, ends}
use Rattle.runs.specs.declared.standing.Doing.{Doing}
use Rattle.runs.specs.Firings.{left_of}
use Rattle.runs.specs.Nets.{at, taken}
use Rattle.runs.specs.Standings.{idle, state_of}
use Rattle.runs.proofs.Marks.{set_are, set_stay}
use Rattle.runs.proofs.standing.Standing.serve.Goals as goal

pub loop-a-preserved : goal.loop-a-preserved
loop-a-preserved c =
    let i = c.loop-a.a in
    let front = c.loop-a.doing-items in
    let rest = drop c.args.actors c.args.self.now.doing in
    let ds = front ++ rest in
    let v = c.loop-a.invariant.1 in
    let s = state_of c.args.self.now in
    let left = c.args.left.now in
    let x = c.serve.new.self in
    let in_front : i < length front = omega (arith, c.loop-a.invariant.0) in
    let lt : i < length ds = omega (arith, length-append front rest) in
    let lt' : i < length c.loop-a.done = omega (arith, v.size) in
    let here : get_or ds i idle ≡ get_or front i idle = get_or_append_left front rest idle i in_front in
    let was = sym (ap (λ (d : Doing). left_of d.firing) here) ∙ v.left_stay i (omega arith) in
    let count = sym (ap (λ (d : Doing). d.ended) here) ∙ v.ended_stay i (omega arith) in
    let is = c.serve.ensures.left ∙ ap (λ l. cond (ltb 0 l) (at left i) 0) was in
    let over = c.serve.ensures.done ∙ ap₂ (λ l m. ltb 0 l && eqb m 0) was is in
    rw (← set-append_left front rest i x in_front) (
      simp length-set c.loop-a.invariant.0,
      record {
        size = simp length-set v.size;
        tokens = v.tokens;
        free = v.free;
        done_are = set_are (λ k (b : Bool). b ≡ ends s (taken s (at left)) k) c.loop-a.done false i c.serve.result lt' v.done_are over;
        left_are = set_are (λ k (d : Doing). left_of d.firing ≡ taken s (at left) k) ds idle i x lt v.left_are is;
        left_stay = set_stay (λ k (d : Doing). left_of d.firing ≡ s.left k) ds idle i x lt v.left_stay;
        ended_are = set_are (λ k (d : Doing). d.ended ≡ s.ended k + when (ends s (taken s (at left)) k) 1) ds idle i x lt v.ended_are
            (c.serve.ensures.ended ∙ ap₂ (λ n b. n + when b 1) count over);
        ended_stay = set_stay (λ k (d : Doing). d.ended ≡ s.ended k) ds idle i x lt v.ended_stay;
      },
    )
