use Rattle.model.proofs.Examples.{worked_runs}
use Rattle.model.proofs.Law.{law}
use Rattle.model.proofs.Paces.{pace}
use Rattle.model.proofs.Rates.{rate_holds}
use Rattle.model.proofs.Runs.{run_fits}
use Rattle.model.proofs.Schedules.{in_order, no_faster}
use Rattle.model.proofs.laws_stand.Goals as goal

pub returns : goal.returns
returns c = record { value = worked_runs.chain_4; law = law; fits = run_fits; order = in_order; schedules = no_faster; pace = pace; rates = rate_holds; worked = worked_runs }
