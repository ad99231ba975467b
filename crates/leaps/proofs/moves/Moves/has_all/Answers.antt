use Rattle.std.proofs.Common.{◌<◌, ap, ◌∙◌, arith, rules, tests}
use Rattle.std.specs.List.{list_all}
use Rattle.std.proofs.lemmas.Iterator.{YieldsList-from_slice}
use Rattle.std.proofs.lemmas.Iterator.Adapters.{serves_from_places}
use Rattle.std.proofs.lemmas.Iterator.Search.{all_from_yields_List}
use Rattle.leaps.specs.declared.list.Move.{Move}
use Rattle.leaps.proofs.Listed.{fits, moves_fit}
use Rattle.leaps.proofs.moves.Moves.has_all.Goals as goal

pub all-requires-clause-callable : goal.all-requires-clause-callable
all-requires-clause-callable c = serves_from_places (YieldsList-from_slice c.of_actor.result.now cc) (λ x q r. search (rules, tests))
    (λ x k lt is. let within : x.now.store < 64 = omega (arith, ap (λ (m : Move). m.store) is, c.of_actor.ensures.within k x.now lt) in search rules)

pub returns : goal.returns
returns c =
    all_from_yields_List (fits c.args.levels.now) _ _ _ c.all.ensures.ran (YieldsList-from_slice c.of_actor.result.now cc) (λ x b q k. search (rules, tests))
    ∙ ap (list_all (fits c.args.levels.now)) c.of_actor.ensures.moves ∙ moves_fit c.args.self.now c.args.a c.args.levels.now _
