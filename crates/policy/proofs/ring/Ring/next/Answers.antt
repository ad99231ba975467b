use Rattle.std.proofs.Common.{ℕ, ◌+◌, ◌-◌, sym, ap, ◌∙◌, rules}
use Rattle.std.specs.List.{find, range_with_len}
use Rattle.std.specs.Option.{option_or}
use Rattle.std.proofs.lemmas.List.Folds.{find-append}
use borrow.Author.Tests.{tests}
use Rattle.policy.specs.Works.{lefts_of}
use Rattle.policy.proofs.Steps.{has, round_of, either, next_round}
use Rattle.policy.proofs.ring.Ring.next.Goals as goal

pub returns : goal.returns
returns c =
    let p = c.args.self.now in
    let left = lefts_of p.rows.list.items in
    let n = c.number.result in
    let t = p.turn in
    let parts = find-append (has left) (range_with_len (t + 1) (n - (t + 1))) (range_with_len 0 (t + 1)) in
    let last = find (has left) (range_with_len 0 (t + 1)) in
    either c.first.result c.or_else.result last c.or_else.ensures (λ d. search (rules, tests))
    ∙ ap (λ o. option_or o last) c.first.ensures
    ∙ sym parts
    ∙ ap (λ (n : ℕ). find (has left) (round_of n t)) c.number.ensures
    ∙ sym (next_round p c.if-self.false)
