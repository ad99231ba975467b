use Rattle.std.proofs.Common.{arith}
use Rattle.graph.specs.Piece.{along, back}
use Rattle.graph.proofs.wiring.Wiring.border.Goals as goal

pub returns-then-not-marks-dest : goal.returns-then-not-marks-dest
returns-then-not-marks-dest c =
    let h = c.loop-channel-test.true in
    let w = c.args.self.now in
    (omega (arith, w.few, w.ends _ h), c.if-not-marks-dest.true, λ f. along c.loop-channel.channel-index h (f _ c.if-marks-source.true))

pub returns-then-not-marks-source : goal.returns-then-not-marks-source
returns-then-not-marks-source c =
    let h = c.loop-channel-test.true in
    let w = c.args.self.now in
    (omega (arith, w.few, w.ends _ h), c.if-not-marks-source.true, λ f. back c.loop-channel.channel-index h (f _ c.if-marks-dest.true))
