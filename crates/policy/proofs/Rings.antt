-- What a ring's fields keep, as the lemmas on rounds take it. Assumes nothing.
use Rattle.std.proofs.Common.{length}
use Rattle.policy.specs.declared.ring.Ring.{Ring}
use Rattle.policy.specs.Works.{works_of, lefts_of}
use Rattle.policy.specs.Rounds.{Table}
use Rattle.policy.specs.Rings.{table as rows_table}

pub table : (p : Ring) → Table (length p.rows.list.items) (works_of p.rows.list.items) (lefts_of p.rows.list.items) p.turn p.busy
table p = rows_table p.rows p.turn p.busy p.on p.going
