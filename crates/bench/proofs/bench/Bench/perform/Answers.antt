use Rattle.std.proofs.Common.{rules}
use Rattle.runs.specs.Seen.{net, times_of, state}
use Rattle.bench.specs.declared.call.Call.TheVariants.{Count, Tokens, Due}
use Rattle.bench.specs.declared.call.Answer.TheVariants.{Ticked, Counted, Held, Owed, Restarted}
use Rattle.bench.specs.Story.{counted, no_count, held, no_tokens, owed, no_due}
use Rattle.bench.specs.Calls.{look}
use Rattle.bench.proofs.Performs.{mapped, tick_done, restart_done, question_done}
use Rattle.bench.proofs.bench.Bench.perform.Goals as goal

pub returns-in-Tick-clause-value : goal.returns-in-Tick-clause-value
returns-in-Tick-clause-value g c =
    let b = c.args.self.now in
    tick_done g.P.Policy (net b.run.graph.now) (times_of b.run.graph.now) (look b) (look c.tick.new.self) c.args.call c.map.result b.refused c.tick.result c.in-Tick.is c.tick.ensures.value
    (mapped (λ x. Ticked x.0 x.1) _ (λ x y h. search rules) c.tick.result c.map.result c.map.ensures.cases)

pub returns-in-Count-clause-value : goal.returns-in-Count-clause-value
returns-in-Count-clause-value g c =
    let b = c.args.self.now in
    let n = net b.run.graph.now in
    let a = c.in-Count.a in
    question_done g.P.Policy n (times_of b.run.graph.now) (look b) c.args.call (Count a) c.map-in-Count.result n.actors (state b.run).ended a Counted (λ h lt. counted a lt) (λ h ge. no_count a ge)
    b.refused c.count.result c.in-Count.is c.count.ensures (mapped Counted _ (λ x y h. search rules) c.count.result c.map-in-Count.result c.map-in-Count.ensures.cases)

pub returns-in-Tokens-clause-value : goal.returns-in-Tokens-clause-value
returns-in-Tokens-clause-value g c =
    let b = c.args.self.now in
    let n = net b.run.graph.now in
    let a = c.in-Tokens.c in
    question_done g.P.Policy n (times_of b.run.graph.now) (look b) c.args.call (Tokens a) c.map-in-Tokens.result n.channels (state b.run).tokens a Held (λ h lt. held a lt) (λ h ge. no_tokens a ge)
    b.refused c.tokens.result c.in-Tokens.is c.tokens.ensures (mapped Held _ (λ x y h. search rules) c.tokens.result c.map-in-Tokens.result c.map-in-Tokens.ensures.cases)

pub returns-in-Due-clause-value : goal.returns-in-Due-clause-value
returns-in-Due-clause-value g c =
    let b = c.args.self.now in
    let n = net b.run.graph.now in
    let a = c.in-Due.a in
    question_done g.P.Policy n (times_of b.run.graph.now) (look b) c.args.call (Due a) c.map-in-Due.result n.actors (g.P.Policy.view b.policy).due a Owed (λ h lt. owed a lt) (λ h ge. no_due a ge)
    b.refused c.due.result c.in-Due.is c.due.ensures (mapped Owed _ (λ x y h. search rules) c.due.result c.map-in-Due.result c.map-in-Due.ensures.cases)

pub returns-in-Restart-clause-value : goal.returns-in-Restart-clause-value
returns-in-Restart-clause-value g c =
    let b = c.args.self.now in
    restart_done g.P.Policy (net b.run.graph.now) (times_of b.run.graph.now) (look b) (look c.restart.new.self) c.args.call c.map-in-Restart.result b.refused c.restart.result c.in-Restart.is
    c.restart.ensures.value (mapped (λ _. Restarted) _ (λ x y h. search rules) c.restart.result c.map-in-Restart.result c.map-in-Restart.ensures.cases)
