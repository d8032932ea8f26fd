-- Card after card is raised, up to the last word.
use Prim.Native.Nat.{◌-◌}
use mathlib.Core.Path.{◌≡◌}
use lib.ListN.{length}
use Rattle.library_raise.specs.Raised.{card_raised}
use Rattle.library_yanks_bits.proofs.Cards.{Ahead}
use Rattle.library_raise.proofs.raise_numbers.Given as goal

abbrev pub invariant-loop-at : goal.invariant-loop-at
invariant-loop-at l = (length l.w ≡ length l.initial.w) × Ahead (card_raised l.n) l.initial.w l.w l.at

abbrev pub decreases-loop-at : goal.decreases-loop-at
decreases-loop-at l = length l.initial.w - l.at
