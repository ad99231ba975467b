use Rattle.std.proofs.Common.{arith, ap}
use Rattle.runs.specs.Standings.{state_of}
use Rattle.runs.specs.Nets.{at}
use Rattle.runs.specs.Wirings.{net_in}
use Rattle.runs.proofs.Places.{finishes_within}
use Rattle.runs.proofs.Ticks.{finishes, finishes_counts, finishes_vacant}
use Rattle.runs.proofs.standing.Standing.finish.Goals as goal

pub give-requires : goal.give-requires
give-requires c i lt =
    let h = c.requires.roomy i lt in
    let t = ap (λ f. f i) c.serve-done.ensures.tokens in
    let f = ap (λ f. f i) c.serve-done.ensures.free in
    (omega (arith, t, h.0), omega (arith, f, h.1))

pub returns-clause-after : goal.returns-clause-after
returns-clause-after c = finishes c.args.wires.now.actors c.args.wires.now.channels.now c.args.wires.now.fitting c.args.left.now (state_of c.args.self.now) (state_of c.serve-done.new.self) (state_of c.give.new.self)
    c.serve-done.result c.serve-done.ensures c.give.ensures

pub returns-clause-counts : goal.returns-clause-counts
returns-clause-counts c = finishes_counts c.args.wires.now.actors c.args.wires.now.channels.now c.args.wires.now.fitting c.args.left.now (state_of c.args.self.now) (state_of c.serve-done.new.self) (state_of c.give.new.self)
    c.serve-done.result c.serve-done.ensures c.give.ensures

pub returns-clause-within : goal.returns-clause-within
returns-clause-within c =
    let w = c.args.wires.now in
    let s = state_of c.args.self.now in
    let z = state_of c.give.new.self in
    finishes_within (net_in w) w.fitting.sound s z (at c.args.left.now)
    (finishes w.actors w.channels.now w.fitting c.args.left.now s (state_of c.serve-done.new.self) z c.serve-done.result c.serve-done.ensures c.give.ensures).alike

pub returns-clause-vacant : goal.returns-clause-vacant
returns-clause-vacant c = finishes_vacant c.args.wires.now.actors c.args.wires.now.channels.now c.args.wires.now.fitting c.args.left.now (state_of c.args.self.now) (state_of c.serve-done.new.self) (state_of c.give.new.self)
    c.serve-done.result c.serve-done.ensures c.give.ensures
