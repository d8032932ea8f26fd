-- What all cards put is what those passed have put and those left put. Assumes nothing.
use mathlib.Core.Path.{◌≡◌}
use mathlib.Core.List.{List}
use Prim.Native.Nat.{ℕ, ◌-◌}
use lib.ListN.{length}
use Rattle.library_check.proofs.Spanning.{Still}
use Rattle.keeper_directory.specs.Parts.{kinds_of}
use Rattle.keeper_directory.proofs.kinds.put_kinds.Given as goal

abbrev pub invariant-loop-at : goal.invariant-loop-at
invariant-loop-at l = (length l.kinds ≡ length l.initial.kinds) × ((d : List ℕ) → Still d l.image l.from (length l.image) l.at (λ ss. kinds_of ss l.initial.kinds) (λ ss. kinds_of ss l.kinds))

abbrev pub decreases-loop-at : goal.decreases-loop-at
decreases-loop-at l = length l.image - l.at
