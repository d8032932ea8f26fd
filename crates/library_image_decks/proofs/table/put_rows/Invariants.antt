-- Each turn adds the row of one deck more.
use Rattle.library_image_decks.proofs.DeckRows.{Put}
use lib.ListN.{length}
use Prim.Native.Nat.{◌-◌}
use Rattle.library_image_decks.proofs.table.put_rows.Given as goal

abbrev pub invariant-loop-at : goal.invariant-loop-at
invariant-loop-at l = Put l.image l.initial.table l.table l.at l.n

abbrev pub decreases-loop-at : goal.decreases-loop-at
decreases-loop-at l = length l.image - l.at
