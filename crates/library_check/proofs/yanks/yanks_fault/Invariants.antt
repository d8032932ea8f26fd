-- The cards passed are right, so the first wrong one is among those left. Assumes nothing.
use Prim.Native.Nat.{◌-◌}
use lib.ListN.{length}
use Rattle.library.specs.Check.{first_failing, ok_yank}
use Rattle.library_check.proofs.Spanning.{Still}
use Rattle.library_check.proofs.yanks.yanks_fault.Given as goal

abbrev pub invariant-loop-at : goal.invariant-loop-at
invariant-loop-at l = Still l.directory l.image l.from l.end l.at (first_failing (ok_yank l.directory l.list)) (first_failing (ok_yank l.directory l.list))

abbrev pub decreases-loop-at : goal.decreases-loop-at
decreases-loop-at l = length l.image - l.at
