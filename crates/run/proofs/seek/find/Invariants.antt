-- The walk goes from card to card; the first of this owner and number is answered, and no card passed was it.
use Prim.Native.Nat.{◌-◌, ◌≤◌}
use Rattle.run.proofs.Walking.{Looks}
use Rattle.run.proofs.seek.find.Given as goal

abbrev pub invariant-loop-at : goal.invariant-loop-at
invariant-loop-at l = (l.i ≤ l.at) × ((l.at ≤ 400000) × Looks l.w l.from l.to l.owner l.seq l.at l.i)

abbrev pub decreases-loop-at : goal.decreases-loop-at
decreases-loop-at l = l.to - l.at
