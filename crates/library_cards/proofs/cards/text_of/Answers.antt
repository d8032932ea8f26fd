-- A card that passes row 5 has its text past the words up to bit 59; where no word has it, none passes. Assumes nothing.
use mathlib.Core.Path.{sym, ◌∙◌}
use Rattle.library_cards.proofs.HeadsWithin.{heads-within}
use Rattle.library_cards.proofs.WordTests.{single-place, text-none, text-there, text-not}
use borrow.Author.Rules.{rules}
use Rattle.library_cards.proofs.cards.text_of.Goals as goal

pub returns-then-single_ok : goal.returns-then-single_ok
returns-then-single_ok c =
    let a = c.args in
    text-there a.directory.now a.image.now a.at c.requires.sized 1 (single-place a.directory.now a.image.now a.at (search rules) c.if-image-at-ge-LAST.true) _ c.single_ok.ensures c.if-single_ok.true

pub returns-then-image-at-ge-LAST : goal.returns-then-image-at-ge-LAST
returns-then-image-at-ge-LAST c =
    let a = c.args in
    text-not a.directory.now a.image.now a.at c.requires.sized 1 (single-place a.directory.now a.image.now a.at (search rules) c.if-image-at-ge-LAST.true) _ c.single_ok.ensures c.if-single_ok.false

pub words_ok-requires : goal.words_ok-requires
words_ok-requires c =
    let a = c.args in
    heads-within a.image.now a.at _ (search rules) (sym c.heads_of.ensures ∙ c.in_ok-k.was)

pub returns-then-words_ok : goal.returns-then-words_ok
returns-then-words_ok c =
    let a = c.args in
    text-there a.directory.now a.image.now a.at c.requires.sized _ (sym c.heads_of.ensures ∙ c.in_ok-k.was) _ c.words_ok.ensures c.if-words_ok.true

pub returns : goal.returns
returns c =
    let a = c.args in
    text-not a.directory.now a.image.now a.at c.requires.sized _ (sym c.heads_of.ensures ∙ c.in_ok-k.was) _ c.words_ok.ensures c.if-words_ok.false

pub returns-in_err-k : goal.returns-in_err-k
returns-in_err-k c =
    let a = c.args in
    search rules ∙ text-none a.directory.now a.image.now a.at (sym c.heads_of.ensures ∙ c.in_err-k.was)
