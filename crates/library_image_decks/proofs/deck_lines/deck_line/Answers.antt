-- The kind says whether the line is a deck card's, and the directive which. Assumes nothing.
use mathlib.Core.Path.{sym, ap, ◌∙◌}
use Rattle.words_lines.specs.declared.Line.{Line}
use Rattle.library.specs.Library.{deck_asked, is_deck_kind}
use Rattle.library.specs.Asked.{deck_line_of}
use Rattle.library_image_decks.proofs.DeckLineKind.{deck-kind, deck-no-kind}
use Rattle.library_image_decks.proofs.deck_lines.deck_line.Goals as goal

pub returns-then-is_deck_kind : goal.returns-then-is_deck_kind
returns-then-is_deck_kind c =
    let l = c.args.line.now in
    c.deck_asked.ensures ∙ ap (λ (x : Line). deck_line_of (deck_asked x)) c.directive.ensures
    ∙ ap deck_line_of (deck-kind l (ap is_deck_kind (sym c.kind_of_line.ensures) ∙ sym c.is_deck_kind.ensures ∙ c.if-is_deck_kind.true))

pub returns : goal.returns
returns c =
    let l = c.args.line.now in
    ap deck_line_of (deck-no-kind l (ap is_deck_kind (sym c.kind_of_line.ensures) ∙ sym c.is_deck_kind.ensures ∙ c.if-is_deck_kind.false))
