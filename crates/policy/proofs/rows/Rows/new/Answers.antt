use Rattle.std.proofs.Common.{◌≡◌, ◌≤◌, List, map, length, subst, sym, ap, ◌∙◌, take_all}
use Rattle.std.specs.List.{All}
use Rattle.policy.specs.declared.rows.Row.{Row}
use Rattle.policy.specs.Works.{Fit, fresh, RowsMade}
use Rattle.policy.proofs.Writes.{made_fresh, few_fresh, fit_fresh}
use Rattle.policy.proofs.rows.Rows.new.Goals as goal

pub invariant_of-result-2 : goal.invariant_of-result-2
invariant_of-result-2 c =
    let ws = c.args.works.now in
    let k = c.loop-work.invariant.0 in
    let e : map fresh ws ≡ c.loop-work.list.items = sym (c.loop-work.invariant.1 ∙ ap (map fresh) (take_all _ ws c.loop-work-test.false)) in
    record { few = subst (λ (rs : List Row). length rs ≤ 16) e (few_fresh ws k); fit = subst (All Fit) e (fit_fresh ws k) }

pub returns : goal.returns
returns c =
    let ws = c.args.works.now in
    let k = c.loop-work.invariant.0 in
    let e : map fresh ws ≡ c.loop-work.list.items = sym (c.loop-work.invariant.1 ∙ ap (map fresh) (take_all _ ws c.loop-work-test.false)) in
    subst (RowsMade ws) e (made_fresh ws k)
