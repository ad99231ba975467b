use Rattle.std.proofs.Common.{◌≡◌, ℕ, min, length, Ok, refl, ◌∙◌, subst, get_or-set_other, length-take, arith}
use Rattle.std.proofs.lemmas.List.{get_or-take}
use Rattle.runs.specs.Seen.{net, times_of}
use Rattle.bench.specs.declared.call.Call.{Call}
use Rattle.bench.specs.declared.call.Call.TheVariants.{Tick}
use Rattle.bench.specs.declared.call.Answer.TheVariants.{Restarted}
use Rattle.bench.specs.Story.{Followed}
use Rattle.bench.specs.Calls.{look}
use Rattle.bench.proofs.Shared.{Means}
use Rattle.bench.proofs.Stories.{story_begins, story_goes_on, story_ends}
use Rattle.bench.proofs.following.follow.Given.{Over}
use Rattle.bench.proofs.following.follow.Goals as goal

means : (g : Over) → Means g.P.Policy
means g = let met = g.met.P.Policy in record { sound = met.sound; ticked = met.ticked; laid = met.laid; cleared = met.cleared }

pub loop-i-init : goal.loop-i-init
loop-i-init g c =
    let join = c.join-bench.ensures in
    record {
      same = join.same;
      refused = refl;
      so_far = story_begins g.P.Policy (means g) c.args.graph.now c.args.policy c.args.calls.now c.join-bench.result.refused c.args.answers.now (look c.join-bench.result) join.refused join.after;
      rest = λ j h. refl;
    }

pub loop-i-preserved : goal.loop-i-preserved
loop-i-preserved g c =
    let calls = c.args.calls.now in
    let answers = c.loop-i.answers in
    let i = c.loop-i.i in
    let r = c.perform.result in
    let was = c.loop-i.invariant in
    let performed = rw (was.same, was.refused, get_or-take c.min-made.result calls i Tick (omega (arith, length-take {A = Call}))) at c.perform.ensures.value in
    record {
      same = c.perform.ensures.same.0 ∙ was.same;
      refused = c.perform.ensures.same.1 ∙ was.refused;
      so_far = story_goes_on g.P.Policy (means g) c.args.graph.now c.args.policy calls c.join-bench.result.refused answers i (look c.loop-i.bench) (look c.perform.new.self) r
          (omega (arith, c.min-made.ensures, length-take {A = Call})) was.so_far performed;
      rest = λ j h. get_or-set_other answers i j r (Ok Restarted) (omega arith) ∙ was.rest j (omega arith);
    }

pub returns : goal.returns
returns g c =
    let gr = c.args.graph.now in
    let calls = c.args.calls.now in
    let answers = c.args.answers.now in
    let is = c.loop-i.invariant in
    let rate = c.unhindered_rate-unhindered.ensures in
    let made : c.loop-i.i ≡ min (length calls) (length answers) = omega (arith, c.min-made.ensures, length-take {A = Call}) in
    record {
      story = subst (λ (k : ℕ). Followed g.P.Policy (net gr) (times_of gr) c.args.policy calls answers c.loop-i.answers k (look c.loop-i.bench)) made
          (story_ends g.P.Policy (means g) gr c.args.policy calls c.join-bench.result.refused answers c.loop-i.answers c.loop-i.i (look c.loop-i.bench) c.join-bench.ensures.refused is.so_far is.rest);
      graph = is.same;
      unhindered = record { value = record { value = rate.value; after = rate.after; rising = rate.rising }; means = rate.means };
      promised = c.promised_rate-promised.ensures;
      fastest = rate.fastest;
    }
