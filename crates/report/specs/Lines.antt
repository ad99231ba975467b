-- What is reported of a file, and how it is printed. Assumes nothing.
--
-- kept         an answer with a fault of the bench kept whole
-- rated        what rate answers of a graph's run with a table of times, with 256 rows
-- rate_in      of the unhindered run
-- together     the sum of so many numbers of a table
-- promised     the promise of every actor in a slice of 2 in 5 over a ring of all
-- promised_to  the same as a table
-- held_in      what rate answers of the run with those promises; refused where they are over 65,535
-- AcceptedIs   what reading the file answers
-- RatesAre     the rates of a file's graph, or why it is refused
-- ReportIs     the report on a file
-- printed      an answer as it is printed
-- rates_text   the rates of a graph as they are printed
-- report_text  what a file comes to, as it is printed
-- shown_of     a report as it is printed
use Rattle.std.specs.Prelude.{◌≡◌, ℕ, zero, suc, ◌+◌, cond, List, ◌++◌, Ok, Err, codes, decimal, Result, nat_le, nat_lt}
use Rattle.model.specs.Net.{when}
use Rattle.model.specs.Rate.{rate_of}
use Rattle.graph.specs.File.{file_of}
use Rattle.graph.specs.Meaning.{ReadBy}
use Rattle.graph.specs.declared.graph.Graph.{Graph as Accepted}
use Rattle.policy.specs.Wheel.{wide}
use Rattle.policy.specs.declared.fault.Fault.TheVariants.{Promise}
use Rattle.runs.specs.Seen.{net, times_of, reps_of}
use Rattle.rates.specs.Rates.{told, last_tick}
use Rattle.rates.specs.declared.rate.Rate.{Rate}
use Rattle.rates.specs.declared.rate.Rate.TheVariants.{Repeats, Standstill}
use Rattle.rates.specs.declared.fault.Fault.{Fault as BenchFault}
use Rattle.report.specs.Faults.{number_of, fault_text}
use Rattle.report.specs.declared.fault.Fault.{Fault}
use Rattle.report.specs.declared.fault.Fault.TheVariants.{Graph, Policy, Bench}
use Rattle.report.specs.declared.line.Rates.{Rates}
use Rattle.report.specs.declared.line.Report.{Report}

abbrev pub kept : Result Rate BenchFault → Result Rate Fault
kept (Ok r) = Ok r
kept (Err e) = Err (Bench e)

abbrev pub rated : Accepted → (ℕ → ℕ) → Result Rate Fault
rated g time = kept (told (rate_of (net g) time (reps_of g 0) 256 last_tick).answer)

abbrev pub rate_in : Accepted → Result Rate Fault
rate_in g = rated g (times_of g)

abbrev pub together : (ℕ → ℕ) → ℕ → ℕ
together f zero = 0
together f (suc k) = together f k + f k

abbrev pub promised : Accepted → ℕ
promised g = wide 5 2 (together (times_of g) (net g).actors)

abbrev pub promised_to : Accepted → ℕ → ℕ
promised_to g a = when (nat_lt a (net g).actors) (promised g)

abbrev pub held_in : Accepted → Result Rate Fault
held_in g = cond (nat_le (promised g) 65535) (rated g (promised_to g)) (Err (Policy (Promise 0)))

abbrev pub AcceptedIs : List ℕ → Result Accepted Fault → Type 0
AcceptedIs xs (Ok g) = ReadBy (file_of xs) (Ok g)
AcceptedIs xs (Err (Graph e)) = ReadBy (file_of xs) (Err e)
AcceptedIs xs (Err (Policy e)) = ⊥
AcceptedIs xs (Err (Bench e)) = ⊥

-- both rates of the graph that the bytes are the file of, or the refusal of the file
abbrev pub RatesAre : List ℕ → Result Rates Fault → Type 0
RatesAre xs (Ok r) = (g : Accepted) × AcceptedIs xs (Ok g) × (r.rate.answer ≡ rate_in g) × (r.held.answer ≡ held_in g)
RatesAre xs (Err f) = AcceptedIs xs (Err f)

abbrev pub ReportIs : List ℕ → Report → Type 0
ReportIs xs r = RatesAre xs r.answer

abbrev pub printed : Result Rate Fault → List ℕ
printed (Ok (Repeats f d m)) = decimal f ++ (codes " " ++ (decimal d ++ (codes " " ++ decimal m)))
printed (Ok (Standstill f)) = codes "stop " ++ decimal f
printed (Err e) = codes "none " ++ decimal (number_of e)

abbrev pub rates_text : Rates → List ℕ
rates_text r = codes "RATE " ++ (printed r.rate.answer ++ (codes "\nHELD " ++ printed r.held.answer))

abbrev pub report_text : Result Rates Fault → List ℕ
report_text (Ok r) = rates_text r
report_text (Err f) = codes "FAULT " ++ fault_text f

abbrev pub shown_of : Report → List ℕ
shown_of r = report_text r.answer
