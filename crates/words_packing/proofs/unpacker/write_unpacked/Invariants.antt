-- Right because what is written, and the bytes from `at` on unpacked, are all of the bytes unpacked (`Filling`); a turn moves two words over.
use mathlib.Core.Path.{◌≡◌}
use Prim.Native.Nat.{◌-◌, ◌*◌, ◌/◌, ◌%◌, ◌≤◌}
use lib.ListN.{length, drop}
use Rattle.words_packing.specs.Pack.{unpacked}
use Rattle.words_packing.proofs.WrittenSoFar.{Filling}
use Rattle.words_packing.proofs.unpacker.write_unpacked.Given as goal

abbrev pub invariant-loop-at : goal.invariant-loop-at
invariant-loop-at g l =
    record {
      within : l.at ≤ length l.bytes;
      turns : l.at % 15 ≡ 0;
      pace : l.i ≡ 2 * (l.at / 15);
      filling : Filling (unpacked l.bytes) (unpacked (drop l.at l.bytes)) (g.E.Stands.words l.initial.out) (g.E.Stands.words l.out) l.i;
    }

abbrev pub decreases-loop-at : goal.decreases-loop-at
decreases-loop-at g l = length l.bytes - l.at
