-- Two walks, one from the start and one from the gap: a card above the gap is the first with its owner and number, as no two have the same; else it is below, or nowhere.
use Prim.Native.Nat.{◌-◌, ◌≤◌}
use Rattle.run.proofs.Walking.{Looks}
use Rattle.run.proofs.seek.locate.Given as goal

abbrev pub invariant-loop-b : goal.invariant-loop-b
invariant-loop-b l = (l.i ≤ l.a) × ((l.a ≤ 400000) × ((l.j ≤ l.b) × ((l.b ≤ 400000) × (Looks l.w 0 l.lo l.owner l.seq l.a l.i × Looks l.w l.initial.b l.end l.owner l.seq l.b l.j))))

abbrev pub decreases-loop-b : goal.decreases-loop-b
decreases-loop-b l = l.end - l.b
