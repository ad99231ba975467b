use Rattle.std.proofs.Common.{◌∙◌}
use Rattle.graph.proofs.Names.{search_tells}
use Rattle.graph.proofs.reading.is_repeated.Goals as goal

pub returns : goal.returns
returns c =
    let t = c.args.seen.now in
    c.is_some.ensures ∙ search_tells t.rows.now t.used (record { name = c.args.name; field = 0 }) t.within c.find.result c.find.ensures
