-- Up to each place no deck card stands, so the next one is that from there.
use Rattle.library_image_decks.specs.Decks.{deck_end}
use lib.ListN.{length}
use mathlib.Core.Path.{◌≡◌}
use Prim.Native.Nat.{◌-◌, ◌≤◌}
use Rattle.library_image_decks.proofs.titles.deck_end.Given as goal

abbrev pub invariant-loop-at : goal.invariant-loop-at
invariant-loop-at l = (l.from ≤ l.at) × (deck_end l.image l.from ≡ deck_end l.image l.at)

abbrev pub decreases-loop-at : goal.decreases-loop-at
decreases-loop-at l = length l.image - l.at
