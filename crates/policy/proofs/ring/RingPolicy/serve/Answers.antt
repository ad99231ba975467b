use Rattle.std.proofs.Common.{length, sym, ◌∙◌, arith}
use Rattle.std.proofs.lemmas.Bool.{ltb-true}
use Rattle.policy.specs.Works.{works_of, lefts_of}
use Rattle.policy.specs.Rounds.{next_has}
use Rattle.policy.proofs.Rings.{table}
use Rattle.policy.proofs.ring.RingPolicy.serve.Goals as goal

pub serve_one-requires : goal.serve_one-requires
serve_one-requires c =
    let p = c.args.self.now in
    next_has (length p.rows.list.items) (works_of p.rows.list.items) (lefts_of p.rows.list.items) p.turn p.busy (table p) c.in-Some.a (sym c.next.ensures ∙ c.in-Some.is)

pub invariant_of-self : goal.invariant_of-self
invariant_of-self c =
    let p = c.args.self.now in
    let there = next_has (length p.rows.list.items) (works_of p.rows.list.items) (lefts_of p.rows.list.items) p.turn p.busy (table p) c.in-Some.a (sym c.next.ensures ∙ c.in-Some.is) in
    record { on = omega (arith, c.serve_one.ensures.number, there.0); going = λ e. omega (arith, c.left.ensures, ltb-true 0 c.left.result e) }
