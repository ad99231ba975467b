use Rattle.std.proofs.Common.{◌≡◌, length, ap, ◌∙◌, arith}
use Rattle.graph.specs.Meaning.{actors_in}
use Rattle.runs.specs.Loops.{flag}
use Rattle.runs.specs.Seen.{at, state}
use Rattle.runs.proofs.Graphs.{graph_fitting}
use Rattle.bench.specs.Sharing.{many}
use Rattle.bench.proofs.Sharings.{step_done, goes_whole, many_marked}
use Rattle.bench.proofs.sharing.later_tick.Goals as goal

pub returns-clause-ticks : goal.returns-clause-ticks
returns-clause-ticks g c =
    let run = c.args.run.now in
    let gr = run.graph.now in
    let z = c.step-done.new.self in
    let left = c.serve_and_take-left in
    let done = c.step-done.result in
    let few = (graph_fitting gr).few.0 in
    let e = c.step-done.ensures in
    let next = e.tick c.requires.countable in
    let size : length c.actors.result.now ≡ length (actors_in gr) = ap length (c.actors.ensures ∙ ap (λ x. actors_in x.now) (c.graph.ensures ∙ e.graph)) in
    step_done g.P.Policy gr (at run.times) c.requires.timed left.new.policy (at left.result) (state run) (state z) (λ a ha. left.ensures.value a (omega arith)) e.after
    c.args.policy.now c.lay_begun.new.policy run.tick z.tick c.marked.result done left.ensures.serves next e.done (rw e.graph at c.lay_begun.ensures)
    (c.marked.ensures ∙ many_marked done (length c.actors.result.now) (omega (arith, c.step-done.type_inv)) ∙ ap (many (flag done)) size)

pub returns-clause-whole : goal.returns-clause-whole
returns-clause-whole g c =
    let run = c.args.run.now in
    let left = c.serve_and_take-left in
    let few = (graph_fitting run.graph.now).few.0 in
    let e = c.step-done.ensures in
    rw e.graph (goes_whole g.P.Policy run.graph.now (at run.times) c.requires.timed left.new.policy (at left.result) (state run) (state c.step-done.new.self)
    (λ a ha. left.ensures.value a (omega arith)) e.after c.requires.whole)
