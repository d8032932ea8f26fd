-- The stretches that are put are the cards of YANK$$$ of both, and then the decks of both, each with the second's raised.
use Prim.Native.Nat.{ℕ, ◌+◌, ◌-◌}
use native.Mathlib.Omega.{arith}
use mathlib.Core.Path.{refl, ap, ◌∙◌}
use mathlib.Core.List.{List, ◌++◌}
use lib.ListN.{length}
use Rattle.library_raise.specs.Raised.{raised_words}
use Rattle.words_lists.specs.Over.{put_at}
use Rattle.merge.proofs.MergedLayout.{yanks-long, decks-long, cards-laid}
use Rattle.merge.proofs.put.put_cards.Goals as goal

pub returns : goal.returns
returns c =
    let a = c.args.a.now in
    let b = c.args.b.now in
    let ws : List ℕ = a.image.now in
    let vs : List ℕ = b.image.now in
    let n : ℕ = a.parts.names - 2 in
    let at : ℕ = a.parts.cards + b.parts.cards - 3 in
    let more : ℕ = a.parts.decks + b.parts.decks - 3 in
    let y1 = c.yanks.ensures in
    let y2 = c.yanks-2.ensures in
    let d1 = c.decks.ensures in
    let d2 = c.decks-2.ensures in
    c.put_raised-2.ensures
    ∙ ap (put_at more (c.decks.result.now ++ raised_words n c.decks-2.result.now)) c.put_raised.ensures
    ∙ (λ i. put_at more (d1 i ++ raised_words n (d2 i)) (put_at at (y1 i ++ raised_words n (y2 i)) c.args.space.now))
    ∙ cards-laid ws vs a.parts b.parts a.laid b.laid c.args.space.now c.requires n at more (omega (arith, a.laid.names)) refl refl
