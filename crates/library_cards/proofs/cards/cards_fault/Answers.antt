-- The part that is lent is the directory, and the cards stand after the tables. Assumes nothing.
use mathlib.Core.Path.{sym, ◌∙◌}
use Rattle.library_cards.proofs.CardsLeft.{cards-start}
use Rattle.library_cards.proofs.cards.cards_fault.Goals as goal

pub returns : goal.returns
returns c =
    let e = c.entries_of-first in
    let d = c.decks_of in
    c.cards_from.ensures ∙ sym (cards-start c.args.image.now e.result d.result e.ensures.0 d.ensures.0)
