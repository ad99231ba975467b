use Rattle.std.proofs.Common.{◌+◌, ◌<◌, take, arith}
use Rattle.std.proofs.lemmas.List.{length-take-le}
use Rattle.std.proofs.lemmas.Result.{err_from_is_err_and}
use Rattle.graph.specs.Channels.{blank}
use Rattle.graph.specs.Rules.{GoodChannel}
use Rattle.graph.specs.File.{channel_bytes, one_channel}
use Rattle.graph.proofs.Actors.{one_channel_lem}
use Rattle.graph.proofs.Files.{head_bounds}
use Rattle.graph.proofs.Many.{filled_none, filled_more, filled_front, many_refused}
use Rattle.graph.proofs.head.Head.read_channels.Goals as goal

pub loop-i-init : goal.loop-i-init
loop-i-init c =
    let h = c.args.self in
    filled_none blank channel_bytes (GoodChannel h.actors) blank 32 h.channels c.args.bytes.now (head_bounds h.actors h.channels h.within).2

pub returns-in_err-place : goal.returns-in_err-place
returns-in_err-place c =
    let p = err_from_is_err_and c.from_residual.result c.from_residual.ensures.1 in
    let f = c.loop-i.invariant in
    let n = c.args.self.actors in
    let lt : c.loop-i.i < c.args.self.channels = omega (arith, f.size, c.loop-i.auto.place-items, c.loop-i-test.true) in
    rw (p.1, p.2)
    (many_refused blank channel_bytes (GoodChannel n) (one_channel n) (one_channel_lem n) (1 + n) c.args.bytes.now (take c.loop-i.i c.loop-i.place-items)
    c.loop-i.rest.now c.loop-i.i c.args.self.channels _ f.as_written f.good
    (length-take-le c.loop-i.i c.loop-i.place-items (omega (arith, f.size))) lt c.in_err-place.ensures)

pub loop-i-preserved : goal.loop-i-preserved
loop-i-preserved c =
    let h = c.in_ok-place.ensures in
    let f = c.loop-i.invariant in
    let lt : c.loop-i.i < c.args.self.channels = omega (arith, f.size, c.loop-i.auto.place-items, c.loop-i-test.true) in
    filled_more blank channel_bytes (GoodChannel c.args.self.actors) blank c.args.self.channels c.args.bytes.now c.loop-i.place-items c.loop-i.rest.now
    c.in_ok-place.field-0-1.now c.in_ok-place.field-0-0 c.loop-i.i lt f h.0 h.1

pub returns : goal.returns
returns c =
    let h = c.args.self in
    let f = c.loop-i.invariant in
    filled_front blank channel_bytes (GoodChannel h.actors) blank 32 h.channels c.loop-i.i c.args.bytes.now c.loop-i.place-items c.loop-i.rest.now
    (head_bounds h.actors h.channels h.within).2
    (omega (arith, f.size, c.loop-i.auto.place-items, c.loop-i.auto.i-end, c.loop-i-test.false)) f
