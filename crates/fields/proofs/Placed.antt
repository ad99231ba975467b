-- One write after another.
use Rattle.std.proofs.Common.{ℕ, ◌≤◌, List, ◌++◌, length, sym, refl, ◌∙◌, arith, length-append}
use Rattle.std.proofs.lemmas.List.Edits.{paste_all, paste-paste}
use Rattle.fields.specs.declared.writing.Writer.{Writer}
use Rattle.fields.specs.Writing.{Puts}

-- two writes, the second where the first ends
pub puts_more : {v w : List ℕ} {a b c : Writer} → Puts v a b → Puts w b c → b.at ≤ length a.buffer.now → Puts (v ++ w) a c
puts_more {v = v} {w = w} {a = a} {b = b} {c = c} p q h =
    let xs = a.buffer.now in
    let first = p.placed ∙ sym (paste_all xs a.at v (length v) refl) in
    let second = q.placed ∙ sym (paste_all b.buffer.now b.at w (length w) refl) in
    let both = paste-paste xs a.at v w (length v) (length w) refl refl (omega arith) in
    record {
      after = simp length-append (omega arith);
      long = omega arith;
      placed = rw (first, p.after) at second ∙ (both ∙ (rw (← length-append v w) (paste_all xs a.at (v ++ w) (length (v ++ w)) refl)));
    }
