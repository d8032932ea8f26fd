-- At each card that passes, the answer of the whole is that of the cards after it. Assumes nothing.
use Prim.Native.Nat.{◌-◌, ◌≤◌}
use mathlib.Core.Path.{◌≡◌}
use lib.ListN.{length}
use Rattle.library_cards.specs.Found.{answer_from}
use Rattle.library_cards.proofs.cards.cards_from.Given as goal

abbrev pub invariant-loop-at : goal.invariant-loop-at
invariant-loop-at l = (l.at ≤ length l.image) × ((l.n ≤ 16383) × (answer_from l.directory l.image 16383 l.from ≡ answer_from l.directory l.image (16383 - l.n) l.at))

abbrev pub decreases-loop-at : goal.decreases-loop-at
decreases-loop-at l = length l.image - l.at
