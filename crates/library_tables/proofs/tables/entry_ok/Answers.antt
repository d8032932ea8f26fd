-- Each way out is one of the tests of a directory word. Assumes nothing.
use mathlib.Core.Path.{sym, ◌∙◌}
use Rattle.words_lists.specs.Ahead.{ahead_of}
use Rattle.library_tables.proofs.TableWords.{stands-ahead, entry-twice, entry-name}
use lib.ListN.{get_or}
use borrow.Author.Rules.{rules}
use Rattle.library_tables.proofs.tables.entry_ok.Goals as goal

pub returns-then-stands : goal.returns-then-stands
returns-then-stands c =
    let a = c.args in
    let w = get_or a.directory.now a.at 0 in
    sym (entry-twice (ahead_of a.at a.directory.now) w c.if-w-eq-PURGED.false
    (stands-ahead w a.at a.directory.now (search rules) ∙ sym c.stands.ensures ∙ c.if-stands.true))

pub returns : goal.returns
returns c =
    let a = c.args in
    let w = get_or a.directory.now a.at 0 in
    c.is_name_word.ensures ∙ sym (entry-name (ahead_of a.at a.directory.now) w c.if-w-eq-PURGED.false
    (λ e. c.if-w-reserved_word.false (e ∙ sym c.reserved_word.ensures))
    (stands-ahead w a.at a.directory.now (search rules) ∙ sym c.stands.ensures ∙ c.if-stands.false))
