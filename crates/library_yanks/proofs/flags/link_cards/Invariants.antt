-- The cards passed are linked by their owners.
use Prim.Native.Nat.{◌-◌}
use lib.ListN.{length}
use Rattle.library_yanks.proofs.Chaining.{Linking}
use Rattle.library_yanks.proofs.flags.link_cards.Given as goal

abbrev pub invariant-loop-at : goal.invariant-loop-at
invariant-loop-at l = Linking l.cards l.first l.link l.at

abbrev pub decreases-loop-at : goal.decreases-loop-at
decreases-loop-at l = length l.cards - l.at
