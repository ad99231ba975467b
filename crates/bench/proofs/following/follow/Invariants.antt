use Rattle.std.proofs.Common.{◌≡◌, ℕ, ◌≤◌, Ok, get_or}
use Rattle.runs.specs.Seen.{net, times_of}
use Rattle.bench.specs.declared.call.Answer.TheVariants.{Restarted}
use Rattle.bench.specs.Calls.{look, graph_of}
use Rattle.bench.proofs.Stories.{SoFar}
use Rattle.bench.proofs.following.follow.Given as goal

abbrev pub invariant-loop-i : goal.invariant-loop-i
invariant-loop-i g l = record {
  same : graph_of l.bench ≡ l.graph;
  refused : l.bench.refused ≡ l.initial.bench.refused;
  so_far : SoFar g.P.Policy (net l.graph) (times_of l.graph) l.fn.policy l.calls l.answers l.i (look l.bench) l.initial.bench.refused;
  rest : (j : ℕ) → l.i ≤ j → get_or l.answers j (Ok Restarted) ≡ get_or l.initial.answers j (Ok Restarted);
}
