-- The cards passed begin no deck, so those ahead of the first deck card are they and those ahead of it among the rest. Assumes nothing.
use Prim.Native.Nat.{ℕ, ◌-◌, ◌≤◌}
use mathlib.Core.List.{List}
use lib.ListN.{length}
use Rattle.library_check.proofs.Decking.{Ahead}
use Rattle.library_check.proofs.deck_cards.cards_end.Given as goal

abbrev pub invariant-loop-at : goal.invariant-loop-at
invariant-loop-at l = (l.from ≤ l.at) × ((l.at ≤ length l.image) × ((d : List ℕ) → Ahead d l.image l.from l.at))

abbrev pub decreases-loop-at : goal.decreases-loop-at
decreases-loop-at l = length l.image - l.at
