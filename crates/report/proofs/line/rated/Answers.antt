use Rattle.std.proofs.Common.{rules, ◌≡◌, ap, ◌∙◌}
use Rattle.report.specs.Lines.{kept}
use Rattle.report.proofs.Answered.{held_is, held_refused}
use Rattle.report.proofs.line.rated.Goals.{in-Ok, in-Err}
use Rattle.report.proofs.line.rated.Goals as goal

pub returns-clause-held : goal.returns-clause-held
returns-clause-held c =
    let g = c.args.graph.now in
    elim c.match-pile.branch [
      | in-Ok w ↦
          let p = w.in-Ok.ensures in
          let both = w.follow-both in
          let k : w.map_err.result ≡ kept both.result.promised = search rules in
          ap (λ x. x.1) w.rate-is ∙ k ∙ held_is g _ _ _ both.result.promised w.rows-held_rows.ensures p.0 p.2 (both.ensures.promised.rated p.1).value
      | in-Err w ↦ ap (λ x. x.1) w.rate-is ∙ rw w.in-Err.ensures.0 (held_refused g w.in-Err.ensures.1)
    ]
