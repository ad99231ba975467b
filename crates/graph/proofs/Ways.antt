-- A way leads into every set around actor 0, so that the marks tell who is joined.
use Rattle.std.proofs.Common.{ℕ, Bool, List, Some, None, Option, sym, ◌∙◌}
use Rattle.std.proofs.lemmas.Bool.{true≢false}
use Rattle.graph.specs.declared.channel.Channel.{Channel}
use Rattle.graph.specs.Piece.{Way, start, along, back, Joined, Marks, UnmarkedIs, ApartIs, has}

pub way_joined : (cs : List Channel) (a : ℕ) → Way cs a → Joined cs a
way_joined cs _ start w = w.1
way_joined cs _ (along k h r) w = sym (w.2 k h) ∙ way_joined cs _ r w
way_joined cs _ (back k h r) w = w.2 k h ∙ way_joined cs _ r w

-- the marks of the joined actors name the lowest that is apart
pub marked_apart : (n : ℕ) (cs : List Channel) (marks : List Bool) → Marks cs marks → (o : Option ℕ) → UnmarkedIs n marks o → ApartIs n cs o
marked_apart n cs marks m (Some a) u =
    (u.0, λ w. true≢false (sym (way_joined cs a w (has marks, m.start, m.closed)) ∙ u.1), λ b h. m.sound b (u.2 b h))
marked_apart n cs marks m None u = λ b h. m.sound b (u b h)
