-- Card after card passes the gap; a card that finds no room shows that the range has none, for a mark never shortens.
use Prim.Native.Nat.{◌-◌}
use mathlib.Core.Path.{◌≡◌}
use lib.ListN.{length}
use Rattle.run.specs.GapWords.{Ordered}
use Rattle.run.proofs.Ranging.{Lefts}
use Rattle.run.proofs.marks.mark_range.Given as goal

abbrev pub invariant-loop-hi : goal.invariant-loop-hi
invariant-loop-hi l = Ordered l.w l.h × ((l.hi ≡ l.h.hi) × ((length l.w ≡ length l.initial.w) × Lefts l.initial.w l.initial.h l.stop l.was l.n l.w l.h))

abbrev pub decreases-loop-hi : goal.decreases-loop-hi
decreases-loop-hi l = l.stop - l.hi
