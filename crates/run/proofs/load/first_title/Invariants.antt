-- The walk goes from card to card; the first deck card is answered, and no card passed was one.
use Prim.Native.Nat.{◌-◌, ◌≤◌}
use Rattle.run.proofs.Titling.{Passes}
use Rattle.run.proofs.load.first_title.Given as goal

abbrev pub invariant-loop-at : goal.invariant-loop-at
invariant-loop-at l = (l.i ≤ l.at) × ((l.at ≤ 400000) × Passes l.w l.to l.decks l.at l.i)

abbrev pub decreases-loop-at : goal.decreases-loop-at
decreases-loop-at l = l.to - l.at
