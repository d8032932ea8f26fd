-- The cards passed have the right bits, so the first wrong one is among those left. Assumes nothing.
use Prim.Native.Nat.{ℕ, ◌-◌}
use mathlib.Core.List.{List}
use lib.ListN.{length}
use Rattle.library.specs.Check.{first_failing, ok_bits}
use Rattle.library_yanks.specs.Bytes.{flagged}
use Rattle.library_check.proofs.Spanning.{Still}
use Rattle.library_check.proofs.bits.bits_fault.Given as goal

abbrev pub invariant-loop-at : goal.invariant-loop-at
invariant-loop-at l = (d : List ℕ) → Still d l.image l.from (length l.image) l.at (first_failing (ok_bits (flagged l.flags))) (first_failing (ok_bits (flagged l.flags)))

abbrev pub decreases-loop-at : goal.decreases-loop-at
decreases-loop-at l = length l.image - l.at
