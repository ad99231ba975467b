use Rattle.std.proofs.Common.{◌≡◌, ◌+◌, ◌++◌, take, ◌∙◌, refl, arith}
use Rattle.std.specs.List.{flat_map}
use Rattle.std.proofs.lemmas.List.{append-nil, take_more}
use Rattle.std.proofs.lemmas.List.Concat.{flat_map-append}
use Rattle.std.proofs.lemmas.List.Folds.{length-flat_map-take}
use Rattle.std.proofs.lemmas.Result.{err_from_is_err_and}
use Rattle.fields.proofs.Placed.{puts_more}
use Rattle.graph.proofs.writing.put_all.Goals as goal

pub returns-in_err-put-clause-done : goal.returns-in_err-put-clause-done
returns-in_err-put-clause-done g c =
    let p = err_from_is_err_and c.from_residual.result c.from_residual.ensures.1 in
    let h = c.in_err-put.ensures.done in
    let u = c.part-item in
    let parts = rw (← u.is) at (length-flat_map-take g.P.Part.bytes c.args.parts.now c.loop-part.part-index u.result c.loop-part-test.true) in
    rw (p.1, p.2) (h.0, omega (arith, h.1))

pub loop-part-preserved : goal.loop-part-preserved
loop-part-preserved g c =
    let bytes = g.P.Part.bytes in
    let us = c.args.parts.now in
    let i = c.loop-part.part-index in
    let u = c.part-item in
    let h = c.in_ok-put.ensures in
    let all : flat_map bytes (take (i + 1) us) ≡ flat_map bytes (take i us) ++ bytes u.result =
    rw (take_more us i u.result c.loop-part-test.true, flat_map-append, ← u.is, append-nil) refl in
    (rw all (puts_more c.loop-part.invariant.0 h.done.0 (omega (arith, h.done))), h.lender ∙ c.loop-part.invariant.1)
