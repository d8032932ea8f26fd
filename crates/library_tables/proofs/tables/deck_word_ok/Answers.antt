-- Each way out is one of the tests of a word of the deck list. Assumes nothing.
use mathlib.Core.Path.{sym, ◌∙◌}
use lib.ListN.{get_or}
use Rattle.words_lists.specs.Ahead.{ahead_of}
use Rattle.library_tables.proofs.TableWords.{stands-ahead, some-ahead, deck-twice, deck-name}
use borrow.Author.Rules.{rules}
use Rattle.library_tables.proofs.tables.deck_word_ok.Goals as goal

pub returns-then-stands : goal.returns-then-stands
returns-then-stands c =
    let a = c.args in
    let w = get_or a.decks.now a.at 0 in
    sym (deck-twice a.directory.now (ahead_of a.at a.decks.now) w (some-ahead a.at a.decks.now c.if-at-eq0.false)
    (stands-ahead w a.at a.decks.now (search rules) ∙ sym c.stands-2.ensures ∙ c.if-stands.true))

pub returns : goal.returns
returns c =
    let a = c.args in
    let w = get_or a.decks.now a.at 0 in
    c.is_name_word.ensures
    ∙ sym (deck-name a.directory.now (ahead_of a.at a.decks.now) w (some-ahead a.at a.decks.now c.if-at-eq0.false)
    (sym c.stands.ensures ∙ c.if-not-stands.false)
    (stands-ahead w a.at a.decks.now (search rules) ∙ sym c.stands-2.ensures ∙ c.if-stands.false))
