use Rattle.std.proofs.Common.{◌<◌, ◌≤◌, length, take, refl, ap, ◌∙◌, arith}
use Rattle.std.proofs.lemmas.List.{length-take-le}
use Rattle.std.proofs.lemmas.Result.{err_from_is_err_and}
use Rattle.graph.specs.Rules.{nobody, vacant, GoodActor}
use Rattle.graph.specs.File.{actor_bytes, one_actor}
use Rattle.graph.proofs.Actors.{one_actor_lem}
use Rattle.graph.proofs.Files.{head_bounds}
use Rattle.graph.proofs.Many.{filled_none, filled_more, filled_front, many_refused}
use Rattle.graph.proofs.Names.{added, kept_more, tops_more}
use Rattle.graph.proofs.head.Head.read_actors.Goals as goal

pub loop-i-init : goal.loop-i-init
loop-i-init c =
    let h = c.args.self in
    let t = c.over-seen.ensures in
    record {
      filled = filled_none nobody actor_bytes GoodActor vacant 16 h.actors c.args.bytes.now (head_bounds h.actors h.channels h.within).1;
      room = ap length t.rows;
      used = t.used;
      named = rw t.used refl;
      rising = λ i j d _ l. absurd (omega (arith, t.used));
      below = λ k d l. absurd (omega (arith, t.used));
    }

pub returns-in_err-place : goal.returns-in_err-place
returns-in_err-place c =
    let p = err_from_is_err_and c.from_residual.result c.from_residual.ensures.1 in
    let h = c.in_err-place.ensures in
    let i = c.loop-i.invariant in
    let f = i.filled in
    let lt : c.loop-i.i < c.args.self.actors = omega (arith, f.size, c.loop-i.auto.place-items, c.loop-i-test.true) in
    rw (p.1, p.2)
    (many_refused nobody actor_bytes GoodActor one_actor one_actor_lem 1 c.args.bytes.now (take c.loop-i.i c.loop-i.place-items) c.loop-i.rest.now
    c.loop-i.i c.args.self.actors _ f.as_written f.good
    (length-take-le c.loop-i.i c.loop-i.place-items (omega (arith, f.size))) lt (rw i.named at h))

pub loop-i-preserved : goal.loop-i-preserved
loop-i-preserved c =
    let s = c.args.self in
    let h = c.in_ok-place.ensures in
    let i = c.loop-i.invariant in
    let few : s.actors ≤ 16 = (head_bounds s.actors s.channels s.within).1 in
    let lt : c.loop-i.i < c.args.self.actors = omega (arith, i.filled.size, c.loop-i.auto.place-items, c.loop-i-test.true) in
    let d = added _ _ _ _ _ c.add.result (omega (arith, i.room, i.used)) c.add.ensures.done in
    let k =
    kept_more c.loop-i.seen.rows.now _ c.loop-i.place-items c.loop-i.seen.used _ c.loop-i.i _ c.in_ok-place.field-0-0 d i.used (omega (arith, i.room))
    (omega (arith, i.filled.size)) refl i.named in
    record {
      filled = filled_more nobody actor_bytes GoodActor vacant s.actors c.args.bytes.now c.loop-i.place-items c.loop-i.rest.now c.in_ok-place.field-0-1.now
          c.in_ok-place.field-0-0 c.loop-i.i lt i.filled h.0 (rw i.named at h.1);
      room = k.0 ∙ i.room;
      used = k.1;
      named = k.2;
      rising = c.add.ensures.rising i.rising (λ k z l. omega (arith, i.below k z l));
      below = tops_more c.loop-i.seen.rows.now _ c.loop-i.seen.used _ c.loop-i.i _ d (omega (arith, i.room, i.used)) (omega arith) i.below;
    }

pub returns : goal.returns
returns c =
    let h = c.args.self in
    let f = c.loop-i.invariant.filled in
    filled_front nobody actor_bytes GoodActor vacant 16 h.actors c.loop-i.i c.args.bytes.now c.loop-i.place-items c.loop-i.rest.now
    (head_bounds h.actors h.channels h.within).1
    (omega (arith, f.size, c.loop-i.auto.place-items, c.loop-i.auto.i-end, c.loop-i-test.false)) f
