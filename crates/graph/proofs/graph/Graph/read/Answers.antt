use Rattle.std.proofs.Common.{◌≡◌, None, refl, arith}
use Rattle.std.proofs.lemmas.Result.{err_from_is_err_and}
use Rattle.graph.specs.declared.fault.Fault.TheVariants.{Unbalanced}
use Rattle.graph.proofs.Files.{stated_read, stated_actors}
use Rattle.graph.proofs.graph.Graph.read.Goals as goal

pub returns-in-Some : goal.returns-in-Some
returns-in-Some c =
    let s = c.in_ok-actors.ensures in
    record { said = rw (stated_read _ _ s) (rw (stated_actors _ _ s) c.in-Some.ensures); back = tt }

pub returns-in_err-counts-clause-said : goal.returns-in_err-counts-clause-said
returns-in_err-counts-clause-said c =
    let s = c.in_ok-actors.ensures in
    let p = err_from_is_err_and c.from_residual-in_err-counts.result c.from_residual-in_err-counts.ensures.1 in
    let none : c.counts.result ≡ None = c.in_err-counts.ensures.ok_part in
    let e : c.in_err-counts.field-0.0 ≡ Unbalanced = grind (arith, c.in_err-counts.ensures.value, none) in
    rw (stated_read _ _ s, p.1, p.2, e) (rw (stated_actors _ _ s) (c.in_default.ensures, rw none at c.counts.ensures))

pub returns-clause-said : goal.returns-clause-said
returns-clause-said c =
    let s = c.in_ok-actors.ensures in
    rw (stated_read _ _ s) (refl, refl)
