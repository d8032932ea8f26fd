-- Each card seen is one of those that stand from its place on.
use Prim.Native.Nat.{◌+◌, ◌-◌, ◌≤◌}
use mathlib.Core.Path.{◌≡◌}
use lib.ListN.{length}
use Rattle.library_image.specs.Places.{places_in}
use Rattle.merge.proofs.counted.count_cards.Given as goal

abbrev pub invariant-loop-at : goal.invariant-loop-at
invariant-loop-at l = (l.n + l.from ≤ l.at) × ((l.n ≤ length l.image) × (l.n + length (places_in l.image l.at) ≡ length (places_in l.image l.from)))

abbrev pub decreases-loop-at : goal.decreases-loop-at
decreases-loop-at l = length l.image - l.at
