-- One card, two, or neither: each as the definition says.
use Rattle.std.proofs.Common.{◌∙◌, sym}
use Rattle.words_lines_asked.proofs.DirectiveAsks.{range-asked, range-refused}
use Rattle.words_lines_asked.proofs.asks.range.Goals as goal

pub returns-in-Some : goal.returns-in-Some
returns-in-Some g c = λ says is.
    let cards = c.in-Some in
    is cards.first cards.last c.ask.result c.ask.ensures ∙ range-asked says c.args.field.now cards.first cards.last (sym c.range_of.ensures ∙ cards.is)

pub returns-in-None : goal.returns-in-None
returns-in-None g c = λ says is. range-refused says c.args.field.now (sym c.range_of.ensures ∙ c.in-None.is)
