-- The entries passed are none of the first's.
use Prim.Native.Nat.{◌+◌}
use mathlib.Core.Path.{◌≡◌}
use lib.ListN.{drop}
use Rattle.words.specs.Base.{place_from}
use Rattle.library.specs.Library.{has_name}
use Rattle.merge_names.proofs.shared_name.Given as goal

abbrev pub invariant-loop-i : goal.invariant-loop-i
invariant-loop-i l = place_from (has_name l.first) 2 l.second ≡ place_from (has_name l.first) (2 + l.i) (drop l.i l.second)
