-- The line is what the words say, and one that begins with no star is no deck card's.
use mathlib.Core.Path.{sym, ap, ◌∙◌}
use mathlib.Core.List.{List}
use Prim.Native.Nat.{ℕ}
use Rattle.library.specs.Library.{deck_line}
use Rattle.library.specs.Asked.{deck_line_of}
use Rattle.library_image.proofs.CardPlaces.{line_taken}
use Rattle.library_image_decks.proofs.DeckTitles.{deck-starless}
use Rattle.library_image_decks.proofs.titles.deck_at.Goals as goal

pub returns-then-not-star_at : goal.returns-then-not-star_at
returns-then-not-star_at c = let a = c.args in deck-starless a.image.now a.from a.to (sym c.star_at.ensures ∙ c.if-not-star_at.true)

pub returns : goal.returns
returns c = let e = c.line_of-n.ensures in c.deck_line.ensures ∙ ap (λ (l : List ℕ). deck_line_of (deck_line l)) (line_taken _ _ _ _ _ _ e.value e.line_after)
