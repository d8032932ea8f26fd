use Prim.Native.Nat.{◌+◌, ◌≤◌}
use native.Mathlib.Omega.{arith}
use lib.ListN.{length, get_or, drop}
use borrow.Rule.Slice.PartMut.{Post-is}
use Rattle.words_packing.proofs.PackedPair.{pack-more, two_at}
use Rattle.words_packing.proofs.packer.write_packed.Goals as goal

pub loop-i-preserved : goal.loop-i-preserved
loop-i-preserved g c =
    let l = c.loop-i in
    let ws = g.E.Stands.words c.args.words.now in
    let h : l.at ≤ l.at + 15 = omega arith in
    let room : l.at + 15 ≤ length l.out = omega arith in
    let next = two_at ws l.i (omega arith) in record {
      within = omega arith;
      pace = omega arith;
      filling =
          rw (Post-is l.at (l.at + 15) l.out h, c.put_pair.ensures, c.word.ensures, c.word-in-loop-i.ensures)
          (pack-more (drop l.i ws) (get_or ws l.i 0) (get_or ws (l.i + 1) 0) (drop (l.i + 2) ws) l.invariant.filling next room);
    }
