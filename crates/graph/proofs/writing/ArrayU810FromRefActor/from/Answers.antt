use Rattle.std.proofs.Common.{◌≡◌, ◌/◌, ◌%◌, [], ◌∷◌, arith}
use Rattle.std.proofs.lemmas.List.{take_at, drop_at}
use Rattle.graph.proofs.writing.ArrayU810FromRefActor.from.Goals as goal

pub returns : goal.returns
returns c =
    let v = c.copy_from_slice.new.self in
    let name = c.copy_from_slice.ensures in
    let high : c.args.actor.now.time / 256 % 256 ≡ c.args.actor.now.time / 256 = omega arith in
    rw (take_at v (0 ∷ 0 ∷ []) 8 name.len, drop_at v (0 ∷ 0 ∷ []) 8 name.len, c.copy_from_slice-2.ensures.after, c.to_be_bytes.ensures, name.after, high)
