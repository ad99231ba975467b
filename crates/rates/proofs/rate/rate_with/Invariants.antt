use Rattle.std.proofs.Common.{◌≡◌, ◌-◌}
use Rattle.runs.specs.Seen.{reps_of}
use Rattle.rates.proofs.Graphs.{Followed}
use Rattle.rates.proofs.rate.rate_with.Given as goal

abbrev pub invariant-ticks : goal.invariant-ticks
invariant-ticks l = record {
  followed : Followed l.fn.graph l.fn.times l.initial.table.rows.now l.run l.due l.table.rows.now l.table.used;
  rep : l.rep ≡ reps_of l.fn.graph 0;
  lender : l.table.rows.ghost_name ≡ l.initial.table.rows.ghost_name;
}

abbrev pub decreases-ticks : goal.decreases-ticks
decreases-ticks l = 10_000_000 - l.run.tick
