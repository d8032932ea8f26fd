use mathlib.Core.Path.{◌≡◌}
use Prim.Native.Nat.{◌+◌, ◌/◌, ◌%◌, ◌^◌}
use native.Mathlib.Omega.{arith}
use lib.ListN.{length, take, drop, length-drop}
use Rattle.words_packing.specs.Pack.{number_of, unpacked_length}
use Rattle.words_packing.proofs.NumberBytes.{below-known}
use Rattle.words_packing.proofs.WrittenSoFar.{fill-two, fill-set, fill_end}
use Rattle.words_packing.proofs.UnpackedPair.{pair-at, left_over, unpacked-last}
use Rattle.words_packing.proofs.unpacker.write_unpacked.Goals as goal

pub loop-at-preserved : goal.loop-at-preserved
loop-at-preserved g c =
    let l = c.loop-at in
    let bs = c.args.bytes.now in
    let less = below-known 256 bs (λ k. (c.type_inv.bytes k).fits) in
    let next = rw (pair-at bs l.at less (omega arith)) at l.invariant.filling in record {
      within = omega arith;
      turns = omega arith;
      pace = omega arith;
      filling =
          rw (c.put-in-loop-at.ensures, c.put.ensures, c.high.ensures, c.eight.ensures, c.high-in-loop-at.ensures, c.eight-in-loop-at.ensures)
          (fill-two (number_of 0 (take 8 (drop l.at bs)) / 16) (number_of 0 (take 8 (drop (l.at + 7) bs)) % 2 ^ 60) next (omega (arith, l.invariant.filling.long)));
    }

pub returns-then-at-bytes : goal.returns-then-at-bytes
returns-then-at-bytes g c =
    let l = c.loop-at in
    let bs = c.args.bytes.now in
    let n = left_over (length bs) l.at c.requires.0 l.invariant.turns c.if-at-bytes.true (omega arith) in
    let size : unpacked_length (length bs) ≡ l.i + 1 = omega arith in
    let last = rw (unpacked-last (drop l.at bs) (rw length-drop (omega arith))) at l.invariant.filling in
    rw (size, c.put-then-at-bytes.ensures, c.high-then-at-bytes.ensures, c.eight-then-at-bytes.ensures) (fill_end (fill-set (number_of 0 (take 8 (drop l.at bs)) / 16) last (omega (arith, l.invariant.filling.long))))
