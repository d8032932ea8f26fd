-- The owners left, from the highest down, do what is still to do.
use mathlib.Core.Path.{◌≡◌}
use lib.ListN.{length, replicate}
use Rattle.library_yanks.specs.Flags.{from_top, top}
use Rattle.library_yanks.proofs.flags.settle_in.Given as goal

abbrev pub invariant-loop-n : goal.invariant-loop-n
invariant-loop-n g l = from_top l.directory l.cards l.n l.flags ≡ from_top l.directory l.cards (top l.directory) (replicate (length l.fn.flags) 0)
