-- Right because what is written, and the words from i on packed, are all of the words packed (`Filling`); a turn moves 15 bytes over.
use mathlib.Core.Path.{◌≡◌}
use Prim.Native.Nat.{◌-◌, ◌*◌, ◌≤◌}
use lib.ListN.{drop}
use Rattle.words_packing.specs.Pack.{packed}
use Rattle.words_packing.proofs.WrittenSoFar.{Filling}
use Rattle.words_packing.proofs.packer.write_packed.Given as goal

abbrev pub invariant-loop-i : goal.invariant-loop-i
invariant-loop-i g l =
    let ws = g.E.Stands.words l.words in
    record { within : l.i ≤ l.n; pace : 2 * l.at ≡ 15 * l.i; filling : Filling (packed ws) (packed (drop l.i ws)) l.initial.out l.out l.at }

abbrev pub decreases-loop-i : goal.decreases-loop-i
decreases-loop-i g l = l.n - l.i
