-- A shared run keeps pace. Assumes nothing.
use Rattle.std.proofs.Common.{ℕ, suc, ◌+◌, ◌<◌, ◌≤◌, arith}
use Rattle.model.specs.Net.{Net, Sound, Timed, fallen, run}
use Rattle.model.specs.Laws.{Due, Pace}
use Rattle.model.proofs.Balance.{tick_balanced, run_balanced}
use Rattle.model.proofs.Runs.{run_left, ticked}
use Rattle.model.proofs.Ahead.{ahead_begin, ahead_tick, ahead_ended}

-- a run's own ticks left are due
own : (n : Net) (time : ℕ → ℕ) → Sound n → Timed n time → (t : ℕ) → Due n time (run n time t) (run n time t).left
own n time sound pos t = record { covers = λ a ha. omega arith; most = run_left n sound time pos t; none = λ a ha h. h }

own_nearer : (n : Net) (time : ℕ → ℕ) → Timed n time → (t a : ℕ) → a < n.actors → 0 < fallen (run n time t) a → (run n time (suc t)).left a + 1 ≤ (run n time t).left a
own_nearer n time pos t a ha h = omega (arith, ticked n time (fallen (run n time t)) (run n time t) a (pos a ha) (omega arith))

pub pace : Pace
pace = record {
  begins = λ n time promise due sound pos pos' d. record {
    balanced = run_balanced n sound time pos 0;
    behind = ahead_begin n sound time time pos pos (run n time 0).left (own n time sound pos 0);
    ahead = ahead_begin n sound time promise pos pos' due d;
  };
  goes = λ n time promise t s left due due' sound pos pos' p v d. record {
    balanced = tick_balanced n sound time pos left s v.falls p.balanced;
    behind = ahead_tick n sound time time pos pos (run n time t) s (fallen (run n time t)) left (run n time t).left (run n time (suc t)).left
        (run_balanced n sound time pos t) p.balanced (λ a ha. omega arith) v.falls v.slow (own_nearer n time pos t) (own n time sound pos (suc t)) p.behind;
    ahead = ahead_tick n sound time promise pos pos' s (run n promise t) left (fallen (run n promise t)) due due'
        p.balanced (run_balanced n sound promise pos' t) v.falls (λ a ha. omega arith) (λ a ha. omega arith) v.nearer d p.ahead;
  };
  counts_between = λ n time promise t s due p d a ha.
      (ahead_ended n s (run n promise t) due a ha (d.covers a ha) p.ahead, ahead_ended n (run n time t) s (run n time t).left a ha (omega arith) p.behind);
}
