-- The deck cards passed are the first of the list, so row 7 is that of the cards and names left. Assumes nothing.
use Prim.Native.Nat.{◌-◌}
use lib.ListN.{length, drop}
use Rattle.library.specs.Check.{row7}
use Rattle.library_check.proofs.Spanning.{Still}
use Rattle.library_check.proofs.deck_cards.decks_fault.Given as goal

abbrev pub invariant-loop-at : goal.invariant-loop-at
invariant-loop-at l = Still l.directory l.image l.from (length l.image) l.at (λ ss. row7 l.directory (drop 1 l.list) ss (length l.image)) (λ ss. row7 l.directory (drop l.d l.list) ss (length l.image))

abbrev pub decreases-loop-at : goal.decreases-loop-at
decreases-loop-at l = length l.image - l.at
