-- The tests come in the order of `word_tests`, and the history is the part of the image after the first word. Assumes nothing.
use mathlib.Core.Path.{sym, ◌∙◌}
use Rattle.library_cards.proofs.WordTests.{words-further}
use borrow.Author.Rules.{rules}
use Rattle.library_cards.proofs.cards.words_ok.Goals as goal

pub returns : goal.returns
returns c =
    let a = c.args in
    c.history_ok.ensures
    ∙ sym (words-further a.directory.now a.image.now a.at a.k (search rules) (search rules) c.if-k-gt-MOST_HEADS.false c.if-image-at.false
    (sym c.first_ok.ensures.value ∙ c.if-not-first_ok.false))
