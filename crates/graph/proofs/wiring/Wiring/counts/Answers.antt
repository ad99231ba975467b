use Rattle.std.proofs.Common.{◌≡◌, ℕ, ◌+◌, ◌-◌, ◌<◌, ◌≤◌, List, length, set, sum, arith, length-set}
use Rattle.std.proofs.lemmas.List.Sums.{sum_by-set}
use Rattle.std.proofs.ByRecursion.{sum_by_le, All-from_get_or}
use Rattle.graph.specs.Counts.{at}
use Rattle.graph.proofs.Sets.{after_set}
use Rattle.graph.proofs.wiring.Wiring.counts.Goals as goal

-- the sum of 16 counts up to 4096 rises towards its bound
rises : (n : List ℕ) (a v : ℕ) → a < length n → length n ≡ 16 → v ≡ at n a + 1 → ((b : ℕ) → at (set n a v) b ≤ 4096)
    → 65536 - sum (set n a v) < 65536 - sum n
rises n a v h e r le =
    omega (arith, sum_by-set (λ (x : ℕ). x) n a v 0 h, sum_by_le (λ (x : ℕ). x) 4096 (set n a v) (All-from_get_or (λ (x : ℕ). x ≤ 4096) (set n a v) 0 (λ b _. le b)), length-set n a v)

pub returns-then-counts-actor-ge4096 : goal.returns-then-counts-actor-ge4096
returns-then-counts-actor-ge4096 c =
    λ m s small. let o = c.in-Some.ensures in
    omega (arith, small c.in-Some.actor (o.1 c.args.self.now.actors c.args.self.now.ends), o.2 m s.1 (c.loop-actor.invariant.3 m s), c.if-counts-actor-ge4096.true)

-- a count below 4096 raised by one
raised : (n : List ℕ) (a v : ℕ) → a < length n → v ≡ at n a + 1 → at n a < 4096 → ((b : ℕ) → at n b ≤ 4096) → (b : ℕ) → at (set n a v) b ≤ 4096
raised n a v h e l f = after_set (λ _ v. v ≤ 4096) n a v 0 h (omega arith) (λ b _. f b)

pub loop-actor-smaller : goal.loop-actor-smaller
loop-actor-smaller c =
    let o = c.in-Some.ensures in
    let i = c.loop-actor.invariant in
    rises c.loop-actor.counts c.in-Some.actor _ o.0 i.0 (omega arith) (raised c.loop-actor.counts c.in-Some.actor _ o.0 (omega arith) (omega (arith, c.if-counts-actor-ge4096.false)) i.2)

pub loop-actor-preserved : goal.loop-actor-preserved
loop-actor-preserved c =
    let o = c.in-Some.ensures in
    let i = c.loop-actor.invariant in
    let n = c.loop-actor.counts in
    let a = c.in-Some.actor in (
      simp length-set i.0,
      after_set (λ b v. b < c.args.self.now.actors → 1 ≤ v) n a _ 0 o.0 (λ _. omega arith) (λ b _. i.1 b),
      raised n a _ o.0 (omega arith) (omega (arith, c.if-counts-actor-ge4096.false)) i.2,
      λ m s. after_set (λ b v. v ≤ m b) n a _ 0 o.0 (omega (arith, o.2 m s.1 (i.3 m s))) (λ b _. i.3 m s b),
    )
