-- Card after card is settled, up to the last word.
use Prim.Native.Nat.{◌-◌}
use mathlib.Core.Path.{◌≡◌}
use lib.ListN.{length}
use Rattle.library_yanks_bits.specs.SettledBits.{flagged, card_bits}
use Rattle.library_yanks_bits.proofs.Cards.{Ahead}
use Rattle.library_yanks_bits.proofs.settle_bits.Given as goal

abbrev pub invariant-loop-at : goal.invariant-loop-at
invariant-loop-at l = (length l.w ≡ length l.initial.w) × Ahead (card_bits (flagged l.flags)) l.initial.w l.w l.at

abbrev pub decreases-loop-at : goal.decreases-loop-at
decreases-loop-at l = length l.initial.w - l.at
