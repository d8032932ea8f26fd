-- The word at a place is the eight bytes from eight times the place on (`word-of`).
use mathlib.Core.Path.{sym, ap, ◌∙◌}
use Prim.Native.Nat.{ℕ, ◌/◌}
use native.Mathlib.Omega.{arith}
use lib.ListN.{length, take, drop}
use Rattle.words_packing.specs.Pack.{low_number}
use Rattle.words_packing.proofs.PackAnswer.{eights_count}
use Rattle.words_packing.proofs.EightsWords.{word-of}
use Rattle.words_packing.proofs.stands.U8Stands.word.Goals as goal

pub returns : goal.returns
returns c =
    let bs = c.args.space.now in
    rw c.eight.ensures at c.low.ensures
    ∙ ap (λ (at : ℕ). low_number (take 8 (drop at bs))) (omega arith)
    ∙ sym (word-of (length bs / 8) c.args.i bs (omega (arith, eights_count (length bs / 8) bs, c.requires)))
