use Rattle.std.proofs.Common.{◌≡◌, false, eqb, length, take, refl, ◌∙◌, arith}
use Rattle.std.proofs.lemmas.List.{length-take-le}
use Rattle.std.proofs.lemmas.Result.{err_from_is_err_and}
use Rattle.std.proofs.lemmas.Bool.Decides.{nat_tests}
use Rattle.graph.proofs.Files.{past_head, past_actors, past_all, head_bounds}
use Rattle.graph.proofs.reading.read_parts.Goals as goal

pub returns-in_err-channels : goal.returns-in_err-channels
returns-in_err-channels c =
    let p = err_from_is_err_and c.from_residual-in_err-channels.result c.from_residual-in_err-channels.ensures.1 in
    let h = c.in_ok-head.head in
    let f = c.in_ok-actors.ensures in
    let many : length (take h.actors c.in_ok-actors.actors) ≡ h.actors = length-take-le h.actors _ (omega (arith, f.size, head_bounds h.actors h.channels h.within)) in
    rw (p.1, p.2)
    (past_head c.args.bytes.now h.actors h.channels _ c.in_ok-head.ensures h.within
    ∙ (past_actors h.actors h.channels _ _ _ f.as_written f.good many ∙ rw c.in_err-channels.ensures refl))

pub returns-in_err-end : goal.returns-in_err-end
returns-in_err-end c =
    let p = err_from_is_err_and c.from_residual-in_err-end.result c.from_residual-in_err-end.ensures.1 in
    let h = c.in_ok-head.head in
    let e = c.in_err-end.ensures in
    let some : eqb (length c.in_ok-channels.rest.now) 0 ≡ false = grind (arith, nat_tests, e.0) in
    rw (p.1, p.2, e.1)
    (past_all c.args.bytes.now h.actors h.channels _ _ _ _ _ h.within c.in_ok-head.ensures c.in_ok-actors.ensures c.in_ok-channels.ensures
    ∙ rw some refl)
