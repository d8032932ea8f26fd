-- What is still to be summed, from the sum so far, gives the sum of all; at the end nothing is.
use mathlib.Core.Path.{◌≡◌}
use Prim.Native.Nat.{◌<◌, ◌≤◌}
use lib.ListN.{length, drop}
use Rattle.std.specs.List.{flat_map}
use Rattle.cases_sums.specs.Space.{sum_from, sum_of}
use Rattle.cases_sums.proofs.space.sum_all.Given as goal

abbrev pub invariant-loop-x : goal.invariant-loop-x
invariant-loop-x g l =
    let numbers = g.T.Summed.numbers in
    record { inside : l.x-index ≤ length l.s; below : l.sum < 4294967291; owed : sum_from l.sum (flat_map numbers (drop l.x-index l.s)) ≡ sum_of (flat_map numbers l.s) }
