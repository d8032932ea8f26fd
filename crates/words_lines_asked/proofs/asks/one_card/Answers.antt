-- A card or none: each as the definition says.
use Rattle.std.proofs.Common.{◌∙◌, sym}
use Rattle.words_lines_asked.proofs.DirectiveAsks.{card-asked, card-refused}
use Rattle.words_lines_asked.proofs.asks.one_card.Goals as goal

pub returns-in-Some : goal.returns-in-Some
returns-in-Some g c = λ says is.
    is c.in-Some.card c.ask.result c.ask.ensures ∙ card-asked says c.args.field.now c.in-Some.card (sym c.card_of.ensures ∙ c.in-Some.is)

pub returns-in-None : goal.returns-in-None
returns-in-None g c = λ says is. card-refused says c.args.field.now (sym c.card_of.ensures ∙ c.in-None.is)
