use Rattle.std.proofs.Common.{◌≡◌, ℕ, List, ◌++◌, length, drop, refl, ap, ◌∙◌, append_assoc, zero-add, arith, rules}
use Rattle.fields.specs.declared.writing.Writer.{Writer}
use Rattle.fields.specs.Writing.{Puts}
use Rattle.fields.proofs.Placed.{puts_more}
use Rattle.graph.proofs.Graphs.{actors_are, channels_are, actors_size, channels_size, size_is}
use Rattle.graph.proofs.graph.Graph.write.Goals as goal

pub returns-then-out-size-clause-done : goal.returns-then-out-size-clause-done
returns-then-out-size-clause-done c = (c.into.ensures, omega (arith, size_is c.args.self.now), refl)

-- the buffer has room for the actors and for the channels, so that neither is refused
pub returns-in_err-put_all-clause-done : goal.returns-in_err-put_all-clause-done
returns-in_err-put_all-clause-done c =
    let buffer = ap length c.new-writer.ensures.kept in
    let late = rw c.actors.ensures at c.in_err-put_all.ensures.done.1 in
    absurd (omega (arith, c.in_ok-write.ensures.done, actors_size c.args.self.now))

pub returns-in_err-put_all-2-clause-done : goal.returns-in_err-put_all-2-clause-done
returns-in_err-put_all-2-clause-done c =
    let g = c.args.self.now in
    let buffer = ap length c.new-writer.ensures.kept in
    let actors = rw c.actors.ensures at c.in_ok-put_all.ensures.done in
    let late = rw c.channels.ensures at c.in_err-put_all-2.ensures.done.1 in
    absurd (omega (arith, c.in_ok-write.ensures.done, actors_size g, channels_size g))

-- what is written from the start of a buffer stands there, before what the buffer held
from_start : {w : List ℕ} {a b : Writer} (xs ys : List ℕ) (n : ℕ) → Puts w a b → a.at ≡ 0 → a.buffer.now ≡ xs → n ≡ b.at → ys ≡ b.buffer.now
    → (n ≡ length w) × (ys ≡ w ++ drop n xs)
from_start {w = w} xs ys n p z x l e =
    let size : n ≡ length w = omega arith in
    (size, e ∙ (p.placed ∙ rw (z, x, size, zero-add) refl))

pub returns-clause-done : goal.returns-clause-done
returns-clause-done c =
    let g = c.args.self.now in
    let buffer = ap length c.new-writer.ensures.kept in
    let head = rw (← actors_are g, ← channels_are g) at c.in_ok-write.ensures.done.0 in
    let actors = rw c.actors.ensures at c.in_ok-put_all.ensures.done in
    let channels = rw c.channels.ensures at c.in_ok-put_all-2.ensures.done in
    let all = rw append_assoc at (puts_more (puts_more head actors (omega arith)) channels (omega (arith, actors_size g))) in
    from_start c.args.out.now _ _ all c.new-writer.ensures.place c.new-writer.ensures.kept c.place.ensures (search rules)
