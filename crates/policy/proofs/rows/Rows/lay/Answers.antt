use Rattle.std.proofs.Common.{◌≡◌, ◌<◌, length, get_or, sym, ap, ◌∙◌, refl}
use Rattle.std.proofs.Math.ListN.{get_or-map}
use Rattle.std.proofs.lemmas.List.{length-set, get_or_read}
use Rattle.policy.specs.declared.rows.Row.{Row}
use Rattle.policy.proofs.Writes.{none, set_works, set_left, set_others}
use Rattle.policy.proofs.rows.Rows.lay.Goals as goal

pub returns-in-Some-clause-done : goal.returns-in-Some-clause-done
returns-in-Some-clause-done c _ =
    let rs = c.args.self.now.list.items in
    let a = c.args.a in
    let row = c.in-Some.row.now in
    let laid : Row = record { work = row.work; left = row.work } in
    let here : a < length rs = c.in-Some.ensures.variant.0 refl in
    let is : row ≡ get_or rs a none = get_or_read rs a row here c.in-Some.ensures.value none in
    record {
      number = length-set rs a laid;
      works = set_works rs a laid (ap (λ (r : Row). r.work) is);
      present = here;
      idle = get_or-map (λ (r : Row). r.left) rs a none ∙ sym (ap (λ (r : Row). r.left) is) ∙ c.if-get_mut-eq0.true;
      given = set_left rs a laid here ∙ ap (λ (r : Row). r.work) is ∙ sym (get_or-map (λ (r : Row). r.work) rs a none);
      others = set_others rs a laid;
    }
