-- Eight bytes over those of the word at a place are that word put there (`word-put`).
use mathlib.Core.Path.{ap, ◌∙◌}
use mathlib.Core.List.{List, ◌++◌}
use Prim.Native.Nat.{ℕ, ◌+◌, ◌*◌, ◌/◌, ◌≤◌, ◌<◌}
use native.Mathlib.Omega.{arith}
use lib.ListN.{length, take, drop}
use borrow.Rule.Slice.PartMut.{Post-is}
use Rattle.words_packing.specs.Pack.{low_bytes, words_from}
use Rattle.words_packing.proofs.PackAnswer.{eights_count}
use Rattle.words_packing.proofs.EightsWords.{word-put, put-long}
use Rattle.words_packing.proofs.stands.U8Stands.put.Goals as goal

pub returns : goal.returns
returns c =
    let a = c.args in
    let bs = a.space.now in
    let k : ℕ = length bs / 8 in
    let inside : a.i < k = omega (arith, eights_count k bs, c.requires) in
    let new : List ℕ = take (a.i * 8) bs ++ (low_bytes 8 a.w ++ drop (a.i * 8 + 8) bs) in
    let h : a.i * 8 ≤ a.i * 8 + 8 = omega arith in
    rw (Post-is (a.i * 8) (a.i * 8 + 8) bs h, c.put_low.ensures)
    (ap (λ (n : ℕ). words_from (n / 8) new) (put-long a.i a.w bs (omega arith)) ∙ word-put k a.i a.w bs inside (omega arith) c.ranges.w.fits)
