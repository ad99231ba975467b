-- The rate of the run with the promises, where they fit.
use Rattle.std.proofs.Common.{◌≡◌, ℕ, ◌<◌, ◌≤◌, List, length, Err, Result, refl, ap, ◌∙◌, arith}
use Rattle.std.proofs.lemmas.Bool.{le-leb}
use Rattle.std.proofs.lemmas.Bool.Decides.{nat_tests}
use Rattle.graph.specs.declared.graph.Graph.{Graph}
use Rattle.policy.specs.declared.fault.Fault.TheVariants.{Promise}
use Rattle.runs.specs.Seen.{net, reps_of}
use Rattle.rates.specs.Rates.{Rated}
use Rattle.rates.specs.declared.rate.Rate.{Rate}
use Rattle.rates.specs.declared.fault.Fault.{Fault}
use Rattle.rates.specs.declared.sample.Sample.{Sample}
use Rattle.rates.proofs.Going.{rated_as}
use Rattle.report.specs.declared.fault.Fault.TheVariants.{Policy}
use Rattle.report.specs.Lines.{kept, promised, promised_to, held_in}

pub held_is : (g : Graph) (time : ℕ → ℕ) (rows rows' : List Sample) (r : Result Rate Fault) → length rows ≡ 256 → promised g ≤ 65535
    → ((a : ℕ) → time a ≡ promised_to g a) → Rated (net g) time (reps_of g 0) rows rows' r → kept r ≡ held_in g
held_is g time rows rows' r many fits same h =
    ap kept (rw many at (rated_as {time' = promised_to g} same h).value) ∙ rw (le-leb (promised g) 65535 fits) refl

pub held_refused : (g : Graph) → 65535 < promised g → Err (Policy (Promise 0)) ≡ held_in g
held_refused g h = grind (arith, nat_tests)
