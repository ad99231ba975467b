use Rattle.std.proofs.Common.{◌<◌, get_or, ◌+◌, arith}
use Rattle.leaps.specs.declared.list.Move.{Move}
use Rattle.leaps.proofs.Walks.{walked_le, walked_more, walked_all}
use Rattle.leaps.proofs.moves.Moves.give.Goals as goal

pub overflow_add-levels : goal.overflow_add-levels
overflow_add-levels c =
    let ms = c.of_actor-m-items.result.now in
    let i = c.loop-m.m-index in
    let d : Move = record { store = 0; rate = 0 } in
    let e = (get_or ms i d).store in
    let within : e < 64 = c.of_actor-m-items.ensures.within i d c.loop-m-test.true in
    omega (arith, walked_le ms i d c.loop-m-test.true _ _ c.of_actor-m-items.ensures, c.loop-m.invariant.are e within, c.requires.room e within)

pub loop-m-preserved : goal.loop-m-preserved
loop-m-preserved c =
    walked_more _ _ _ c.loop-m-test.true ◌+◌ _ _ (λ x s r. omega arith) (c.of_actor-m-items.ensures.within _ _ c.loop-m-test.true) c.loop-m.invariant

pub returns : goal.returns
returns c = walked_all ◌+◌ _ _ _ _ _ _ c.loop-m-test.false c.of_actor-m-items.ensures c.loop-m.invariant
