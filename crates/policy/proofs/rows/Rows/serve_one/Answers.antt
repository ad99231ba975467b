use Rattle.std.proofs.Common.{refl, sym, ◌-◌, ap, ◌∙◌, get_or}
use Rattle.std.proofs.Math.ListN.{get_or-map}
use Rattle.policy.specs.declared.rows.Row.{Row}
use Rattle.policy.specs.Works.{works_of, lefts_of, worn}
use Rattle.policy.proofs.Writes.{none, one_written, set_works, set_left, set_others}
use Rattle.policy.proofs.rows.Rows.serve_one.Goals as goal

pub returns-clause-works : goal.returns-clause-works
returns-clause-works c =
    let rs = c.args.self.now.list.items in
    let a = c.args.a in
    ap works_of (one_written rs c.deref_mut.result.now a worn c.deref_mut.ensures.value) ∙ set_works rs a (worn (get_or rs a none)) refl

pub returns-clause-served : goal.returns-clause-served
returns-clause-served c =
    let rs = c.args.self.now.list.items in
    let a = c.args.a in
    ap (λ ys. get_or (lefts_of ys) a 0) (one_written rs c.deref_mut.result.now a worn c.deref_mut.ensures.value) ∙ set_left rs a (worn (get_or rs a none)) c.requires.0
    ∙ ap (λ l. l - 1) (sym (get_or-map (λ (r : Row). r.left) rs a none))

pub returns-clause-others : goal.returns-clause-others
returns-clause-others c b o =
    let rs = c.args.self.now.list.items in
    let a = c.args.a in
    ap (λ ys. get_or (lefts_of ys) b 0) (one_written rs c.deref_mut.result.now a worn c.deref_mut.ensures.value) ∙ set_others rs a (worn (get_or rs a none)) b o
