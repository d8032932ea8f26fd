-- The part that is tested is the text. Assumes nothing.
use mathlib.Core.Path.{refl, sym, ◌∙◌}
use Rattle.library_cards.proofs.CardsLeft.{end-there, end-not}
use Rattle.library_cards.proofs.cards.end_of.Goals as goal

pub returns-then-is_text : goal.returns-then-is_text
returns-then-is_text c =
    let a = c.args in
    end-there a.image.now a.at a.from _ refl (sym c.is_text.ensures ∙ c.if-is_text.true)

pub returns : goal.returns
returns c =
    let a = c.args in
    end-not a.image.now a.at a.from _ refl (sym c.is_text.ensures ∙ c.if-is_text.false)
