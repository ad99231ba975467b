use Rattle.graph.specs.Channels.{blank}
use Rattle.graph.specs.Rules.{GoodChannel}
use Rattle.graph.specs.File.{channel_bytes}
use Rattle.graph.specs.Answers.{Filled}
use Rattle.graph.proofs.head.Head.read_channels.Given as goal

abbrev pub invariant-loop-i : goal.invariant-loop-i
invariant-loop-i l = Filled blank blank l.self.channels channel_bytes (GoodChannel l.self.actors) l.bytes l.place-items l.i l.rest
