-- What is still to go ends where the whole does. Assumes nothing.
use Prim.Native.Nat.{◌-◌}
use Rattle.library_index.proofs.NameTree.{Going}
use Rattle.library_index.proofs.names.walk.Given as goal

abbrev pub invariant-loop-at : goal.invariant-loop-at
invariant-loop-at l = Going l.directory l.ways l.n l.w l.at l.rest

abbrev pub decreases-loop-at : goal.decreases-loop-at
decreases-loop-at l = l.n - l.at
