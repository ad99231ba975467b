use Rattle.std.proofs.Common.{◌≡◌, ◌-◌, ◌<◌, length, ap, ◌∙◌, arith}
use Rattle.model.specs.Net.{when}
use Rattle.runs.specs.declared.standing.Held.{Held}
use Rattle.runs.specs.Loops.{flag}
use Rattle.runs.specs.Nets.{channel_at}
use Rattle.runs.specs.Standings.{none, state_of}
use Rattle.runs.proofs.Ticks.{bounded}
use Rattle.runs.proofs.Marks.{set_are, set_stay}
use Rattle.runs.proofs.standing.Standing.take.Goals as goal

pub loop-c-preserved : goal.loop-c-preserved
loop-c-preserved c =
    let i = c.loop-c.c in
    let hs = c.loop-c.self.held in
    let v = c.loop-c.invariant in
    let s = state_of c.args.self.now in
    let go = c.args.go.now in
    let cs = c.args.wires.now.channels.now in
    let x = c.take.new.self in
    let lt : i < length hs = omega (arith, (bounded c.args.wires.now.actors c.args.wires.now.channels.now c.args.wires.now.fitting).0) in
    record {
      left = v.left;
      ended = v.ended;
      tokens_are = set_are (λ k (h : Held). h.tokens ≡ s.tokens k - when (flag go (channel_at cs k).dest) (channel_at cs k).q) hs none i x lt v.tokens_are
          (c.take.ensures.tokens ∙ ap (λ n. n - when (flag go (channel_at cs i).dest) (channel_at cs i).q) (v.tokens_stay i (omega arith)));
      free_are = set_are (λ k (h : Held). h.free ≡ s.free k - when (flag go (channel_at cs k).source) (channel_at cs k).p) hs none i x lt v.free_are
          (c.take.ensures.free ∙ ap (λ n. n - when (flag go (channel_at cs i).source) (channel_at cs i).p) (v.free_stay i (omega arith)));
      tokens_stay = set_stay (λ k (h : Held). h.tokens ≡ s.tokens k) hs none i x lt v.tokens_stay;
      free_stay = set_stay (λ k (h : Held). h.free ≡ s.free k) hs none i x lt v.free_stay;
    }
