-- The keys of the cards ahead are listed in their order. Assumes nothing.
use mathlib.Core.Path.{◌≡◌}
use mathlib.Core.List.{List}
use Prim.Native.Nat.{ℕ, ◌-◌, ◌≤◌}
use lib.ListN.{length}
use Rattle.library_check.proofs.Keying.{Listing}
use Rattle.library_check.proofs.twice.list_keys.Given as goal

abbrev pub invariant-loop-at : goal.invariant-loop-at
invariant-loop-at l = (l.n ≤ 16384) × (length l.keys ≡ 16384) × ((d : List ℕ) → Listing d l.image l.from l.keys l.n l.at)

abbrev pub decreases-loop-at : goal.decreases-loop-at
decreases-loop-at l = length l.image - l.at
