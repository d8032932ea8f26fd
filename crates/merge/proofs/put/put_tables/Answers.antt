-- The stretches that are put are the directories and the deck lists of both, one after another.
use Prim.Native.Nat.{ℕ, ◌+◌, ◌-◌}
use native.Mathlib.Omega.{arith}
use mathlib.Core.Path.{◌≡◌, refl, ap, ◌∙◌}
use mathlib.Core.List.{List, ◌++◌}
use lib.ListN.{length, take, drop, length-drop}
use lib.Seq.{take_all}
use Rattle.library.specs.Check.{directory_of, deck_words_of}
use Rattle.merge.specs.Words.{header_of}
use Rattle.words_lists.specs.Over.{put_at}
use Rattle.merge.proofs.MergedLayout.{directory-long, list-long, rest-long, tables-laid}
use Rattle.merge.proofs.put.put_tables.Goals as goal

pub returns : goal.returns
returns c =
    let a = c.args.a.now in
    let b = c.args.b.now in
    let ws : List ℕ = a.image.now in
    let vs : List ℕ = b.image.now in
    let at : ℕ = a.parts.names + b.parts.names - 2 in
    let d1 = c.directory.ensures in
    let d2 = c.directory-2.ensures in
    let n1 = c.list.ensures in
    let n2 = c.list-2.ensures in
    let l2 : List ℕ = c.list-2.result.now in
    let tail : take (length l2 - 1) (drop 1 l2) ≡ drop 1 l2 = take_all (length l2 - 1) (drop 1 l2) (omega (arith, length-drop 1 l2)) in
    c.put_both-2.ensures
    ∙ ap (put_at at (c.list.result.now ++ take (length l2 - 1) (drop 1 l2))) (c.put_both.ensures ∙ ap (put_at 2 (c.directory.result.now ++ c.directory-2.result.now)) c.put_counts.ensures)
    ∙ (λ i. put_at at (n1 i ++ tail i) (put_at 2 (d1 i ++ d2 i) (header_of ws vs ++ drop 2 c.args.space.now)))
    ∙ ap (λ (l : List ℕ). put_at at (deck_words_of ws ++ drop 1 l) (put_at 2 (directory_of ws ++ directory_of vs) (header_of ws vs ++ drop 2 c.args.space.now))) n2
    ∙ tables-laid ws vs a.parts b.parts a.laid b.laid c.args.space.now at refl
