use Rattle.std.proofs.Common.{◌≡◌, length, take}
use Rattle.table.specs.Find.{Rises, Tops}
use Rattle.graph.specs.declared.actor.NameRow.{NameRow}
use Rattle.graph.specs.Rules.{nobody, vacant, names, GoodActor}
use Rattle.graph.specs.File.{actor_bytes}
use Rattle.graph.specs.Answers.{Filled, kept}
use Rattle.graph.proofs.head.Head.read_actors.Given as goal

abbrev pub invariant-loop-i : goal.invariant-loop-i
invariant-loop-i l = record {
  filled : Filled nobody vacant l.fn.self.actors actor_bytes GoodActor l.bytes l.place-items l.i l.rest;
  room : length l.seen.rows.now ≡ 16;
  used : l.seen.used ≡ l.i;
  named : kept l.seen.rows.now l.seen.used ≡ names (take l.i l.place-items);
  rising : Rises {X = NameRow} (λ r. r.field) l.seen.rows.now l.seen.used;
  below : Tops {X = NameRow} (λ r. r.field) l.seen.rows.now l.seen.used l.i;
}
