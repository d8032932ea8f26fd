-- A key's ways lead to where it stood, and where they end a way to it is added. Assumes nothing.
use Prim.Native.Nat.{◌-◌}
use Rattle.library_index_twice.specs.KeyTree.{Tree}
use Rattle.library_index_twice.proofs.KeyWays.{Seeking}
use Rattle.library_index_twice.proofs.tree.stood.Given as goal

abbrev pub invariant-loop-at : goal.invariant-loop-at
invariant-loop-at l = Tree l.keys l.ways l.n × Seeking l.keys l.ways l.n l.key l.at l.rest

abbrev pub decreases-loop-at : goal.decreases-loop-at
decreases-loop-at l = l.n - l.at
