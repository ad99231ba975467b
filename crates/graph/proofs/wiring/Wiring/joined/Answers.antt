use Rattle.std.proofs.Common.{◌≡◌, ℕ, zero, suc, true, false, List, ◌∷◌, replicate, sym, refl, ◌∙◌}
use Rattle.std.proofs.lemmas.Bool.{true≢false}
use Rattle.graph.specs.declared.channel.Channel.{Channel}
use Rattle.graph.specs.Piece.{has, Way, start}
use Rattle.graph.proofs.wiring.Wiring.joined.Goals as goal

-- the first mark
none : (n a : ℕ) → has (replicate n false) a ≡ false
none zero a = refl
none (suc n) zero = refl
none (suc n) (suc a) = none n a

only : (cs : List Channel) (n a : ℕ) → has (true ∷ replicate n false) a ≡ true → Way cs a
only cs n zero h = start
only cs n (suc a) h = absurd (true≢false (sym h ∙ none n a))

pub loop-actor-init : goal.loop-actor-init
loop-actor-init c = (refl, refl, only c.args.self.now.channels.now 15)
