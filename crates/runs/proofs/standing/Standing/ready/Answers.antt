use Rattle.std.proofs.Common.{add-one}
use Rattle.runs.proofs.Marks.{hinders_more, stays_out}
use Rattle.runs.proofs.standing.Standing.ready.Goals as goal

pub loop-c-preserved : goal.loop-c-preserved
loop-c-preserved c =
    let h = c.withhold.ensures in
    let v = c.loop-c.invariant in
    record {
      size = h.0;
      are = λ a lt. rw add-one (hinders_more _ _ _ _ _ (h.1 a) (v.are a lt));
      absent = λ a ge. stays_out _ _ _ (v.absent a ge) (h.1 a);
    }
