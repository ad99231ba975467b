use Rattle.runs.specs.Standings.{state_of}
use Rattle.runs.specs.Nets.{at}
use Rattle.runs.specs.Wirings.{net_in}
use Rattle.runs.proofs.Places.{starts_within}
use Rattle.runs.proofs.Ticks.{takes, starts, starts_counts, starts_vacant}
use Rattle.runs.proofs.standing.Standing.start_ready.Goals as goal

pub take-requires : goal.take-requires
take-requires c = takes c.args.wires.now.actors c.args.wires.now.channels.now c.args.wires.now.fitting (state_of c.args.self.now) c.ready-go.result c.ready-go.ensures

pub returns-clause-after : goal.returns-clause-after
returns-clause-after c = starts c.args.wires.now.actors c.args.wires.now.channels.now c.args.wires.now.fitting (state_of c.args.self.now) c.ready-go.result c.ready-go.ensures
    c.args.times.now (state_of c.take.new.self) (state_of c.begin.new.self) c.take.ensures c.begin.ensures

pub returns-clause-counts : goal.returns-clause-counts
returns-clause-counts c = starts_counts c.args.wires.now.actors c.args.wires.now.channels.now c.args.wires.now.fitting (state_of c.args.self.now) c.ready-go.result c.ready-go.ensures
    c.args.times.now (state_of c.take.new.self) (state_of c.begin.new.self) c.take.ensures c.begin.ensures

pub returns-clause-within : goal.returns-clause-within
returns-clause-within c =
    let w = c.args.wires.now in
    let s = state_of c.args.self.now in
    let z = state_of c.begin.new.self in
    starts_within (net_in w) w.fitting.sound (at c.args.times.now) s z
    (starts w.actors w.channels.now w.fitting s c.ready-go.result c.ready-go.ensures c.args.times.now (state_of c.take.new.self) z c.take.ensures c.begin.ensures).alike

pub returns-clause-vacant : goal.returns-clause-vacant
returns-clause-vacant c = starts_vacant c.args.wires.now.actors c.args.wires.now.channels.now c.args.wires.now.fitting (state_of c.args.self.now) c.ready-go.result c.ready-go.ensures
    c.args.times.now (state_of c.take.new.self) (state_of c.begin.new.self) c.take.ensures c.begin.ensures
