use Rattle.std.proofs.Common.{◌≡◌, take}
use Rattle.std.specs.List.{flat_map}
use Rattle.fields.specs.Writing.{Puts}
use Rattle.graph.proofs.writing.put_all.Given as goal

abbrev pub invariant-loop-part : goal.invariant-loop-part
invariant-loop-part g l =
    Puts (flat_map g.P.Part.bytes (take l.part-index l.parts)) l.initial.writer l.writer
    × (l.writer.buffer.ghost_name ≡ l.initial.writer.buffer.ghost_name)
