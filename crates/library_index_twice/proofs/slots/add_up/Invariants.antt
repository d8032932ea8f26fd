-- The sum stays below the number of slots. Assumes nothing.
use Prim.Native.Nat.{◌≤◌}
use Rattle.library_index_twice.proofs.slots.add_up.Given as goal

abbrev pub invariant-loop-start : goal.invariant-loop-start
invariant-loop-start l = l.sum ≤ 65536
