use Rattle.std.proofs.Common.{Ok, get_or}
use Rattle.runs.specs.Seen.{net, times_of}
use Rattle.runs.proofs.Graphs.{graph_fitting}
use Rattle.bench.specs.declared.call.Call.TheVariants.{Tick}
use Rattle.bench.specs.declared.call.Answer.TheVariants.{Restarted}
use Rattle.bench.specs.Guarantee.{made}
use Rattle.bench.proofs.Pins.{stories_same}
use Rattle.bench.proofs.following.follow_exact.Goals as goal

pub returns-clause-pinned : goal.returns-clause-pinned
returns-clause-pinned g c = λ agreed q answer h z like s.
    let gr = c.args.graph.now in
    let calls = c.args.calls.now in
    let exact = g.met.P.Exact in
    let told = c.follow.ensures.story.story agreed in
    stories_same g.P.Policy g.P.Exact.like (record { shown = exact.shown; ticks = exact.ticking; lays = exact.laying; clears = exact.clearing })
    (net gr) (graph_fitting gr).sound (times_of gr) c.args.policy q like (λ i. get_or calls i Tick) (λ i. get_or c.follow.new.answers i (Ok Restarted)) answer
    (made calls c.args.answers.now) told.0 h _ z told.1 s
