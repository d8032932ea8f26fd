-- Only a well-formed DECK or COMDECK line is a title.
use Rattle.std.proofs.Common.{inl, inr}
use Rattle.library_image.specs.Places.{line_in}
use Rattle.library_image_decks.specs.Decks.{title_in}
use Rattle.library_image_decks.proofs.DeckTitles.{title-line}
use Rattle.library.specs.Library.{deck_line}
use Rattle.library_image_decks.proofs.titles.title_of.Goals as goal

pub returns-in-Deck : goal.returns-in-Deck
unfolding title_in
returns-in-Deck c = let a = c.args in title-line (deck_line (line_in a.image.now a.c.text a.c.next)) _ _ c.deck_at.ensures c.in-Deck.is

pub returns-in-Common : goal.returns-in-Common
unfolding title_in
returns-in-Common c = let a = c.args in title-line (deck_line (line_in a.image.now a.c.text a.c.next)) _ _ c.deck_at.ensures c.in-Common.is

pub returns-in-NotDeck : goal.returns-in-NotDeck
unfolding title_in
returns-in-NotDeck c =
    let a = c.args in
    let d = deck_line (line_in a.image.now a.c.text a.c.next) in
    elim c.in-NotDeck.is [ inl e ↦ title-line d _ _ c.deck_at.ensures e | inr e ↦ title-line d _ _ c.deck_at.ensures e ]
