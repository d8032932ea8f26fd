-- The cards are put where the tables end.
use mathlib.Core.Path.{ap, ◌∙◌}
use mathlib.Core.List.{List}
use Prim.Native.Nat.{ℕ}
use lib.ListN.{length}
use Rattle.merge.specs.Words.{tables_of, merged_cards, merged_words}
use Rattle.words_lists.specs.Over.{put_at}
use Rattle.merge.proofs.PutStretches.{put_last}
use Rattle.merge.proofs.put.put_merged.Goals as goal

pub returns : goal.returns
unfolding merged_words
returns c =
    let a = c.args in
    let ts : List ℕ = tables_of a.a.now.image.now a.b.now.image.now in
    let cs : List ℕ = merged_cards a.a.now.image.now a.b.now.image.now in
    c.put_cards.ensures ∙ ap (put_at (length ts) cs) c.put_tables.ensures ∙ put_last ts cs a.space.now
