use Rattle.std.proofs.Common.{◌≡◌, ◌≢◌, Err, refl, ap, ◌∙◌, arith, rules}
use Rattle.runs.proofs.Graphs.{graph_some}
use Rattle.rates.proofs.Going.{answers_so, ends_so, rated_over}
use Rattle.rates.proofs.Graphs.{follow_begins, follow_comes, follow_on}
use Rattle.rates.proofs.rate.rate_with.Goals as goal

pub ticks-init : goal.ticks-init
ticks-init c =
    let n = c.new-run.ensures in
    record { followed = follow_begins (ap (λ g. g.now) n.graph) n.times n.tick c.over-table.ensures.used n.after; rep = search rules; lender = refl }

pub returns-in-Some : goal.returns-in-Some
returns-in-Some c =
    let f = c.ticks.invariant.followed in
    let h = c.in_ok-rate.ensures in
    let d = rw c.in-Some.is at (follow_comes f h.rising h.value) in
    rated_over c.over-table.ensures.rows (search rules) (answers_so f.going d)

pub returns-in_err-rate : goal.returns-in_err-rate
returns-in_err-rate c =
    let f = c.ticks.invariant.followed in
    let h = c.in_err-rate.ensures in
    let e : c.from_residual.result ≡ Err c.in_err-rate.field-0.0 = search rules in
    rw e (rated_over c.over-table.ensures.rows (search rules) (answers_so f.going (follow_comes f h.rising h.value)))

pub returns-then-tick-eq-LAST_TICK : goal.returns-then-tick-eq-LAST_TICK
returns-then-tick-eq-LAST_TICK c =
    let f = c.ticks.invariant.followed in
    let h = c.in_ok-rate.ensures in
    let o = rw c.in_default.is at (follow_comes f h.rising h.value) in
    rated_over c.over-table.ensures.rows (search rules) (ends_so f.going (omega (arith, c.if-tick-eq-LAST_TICK.true)) o)

pub ticks-preserved-then-done : goal.ticks-preserved-then-done
ticks-preserved-then-done c =
    let i = c.ticks.invariant in
    let h = c.in_ok-rate.ensures in
    let n = c.next-done.ensures in
    let o = rw c.in_default.is at (follow_comes i.followed h.rising h.value) in
    let not_last : c.ticks.run.tick ≢ 10_000_000 = omega (arith, c.if-tick-eq-LAST_TICK.false) in
    record {
      followed = follow_on i.followed not_last o n.graph n.times (n.tick (omega (arith, i.followed.going.early))) (n.done 0 (graph_some c.ticks.run.graph.now)) n.after
          (rw (c.if-done.true, c.ended.ensures.ended, i.rep));
      rep = i.rep;
      lender = h.lender ∙ i.lender;
    }

pub ticks-preserved : goal.ticks-preserved
ticks-preserved c =
    let i = c.ticks.invariant in
    let h = c.in_ok-rate.ensures in
    let n = c.next-done.ensures in
    let o = rw c.in_default.is at (follow_comes i.followed h.rising h.value) in
    let not_last : c.ticks.run.tick ≢ 10_000_000 = omega (arith, c.if-tick-eq-LAST_TICK.false) in
    record {
      followed = follow_on i.followed not_last o n.graph n.times (n.tick (omega (arith, i.followed.going.early))) (n.done 0 (graph_some c.ticks.run.graph.now)) n.after
          (rw c.if-done.false);
      rep = i.rep;
      lender = h.lender ∙ i.lender;
    }
