use Rattle.std.proofs.Common.{refl, sym, ap, ◌∙◌, arith}
use Rattle.std.proofs.lemmas.Option.{slice_get_read, slice_get_past}
use Rattle.leaps.proofs.Gathers.{held}
use Rattle.leaps.proofs.Walks.{is_walk}
use Rattle.leaps.proofs.moves.Moves.of_actor.Goals as goal

pub returns-in-Some : goal.returns-in-Some
returns-in-Some c =
    let at = c.in-Some.ensures.lookup in
    is_walk c.args.self.now c.args.a _ (omega arith) (c.as_slice.ensures ∙ sym (ap held (slice_get_read c.args.self.now.lists _ c.args.a c.in-Some.list.now refl at.3.0 at.1)))

pub returns-in-None : goal.returns-in-None
returns-in-None c = is_walk c.args.self.now c.args.a _ (omega arith) (sym (ap held (slice_get_past c.args.self.now.lists c.args.a c.in-None.ensures.lookup.3)))
