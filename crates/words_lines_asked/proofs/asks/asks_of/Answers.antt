-- Each kind asks what the definition says of it, where nothing but blanks follows the parameters.
use Rattle.std.proofs.Common.{rules}
use Rattle.words_lines.specs.declared.Line.TheVariants.{Deck, Comdeck, Ident, Insert, Before, Delete, Restore}
use Rattle.words_lines_asked.proofs.asks.asks_of.Goals as goal

pub returns-in-Deck : goal.returns-in-Deck
returns-in-Deck c = rw c.in-Deck.is (c.one_name.ensures Deck (λ w r h p. search rules))

pub returns-in-Comdeck : goal.returns-in-Comdeck
returns-in-Comdeck c = rw c.in-Comdeck.is (c.one_name-in-Comdeck.ensures Comdeck (λ w r h p. search rules))

pub returns-in-Ident : goal.returns-in-Ident
returns-in-Ident c = rw c.in-Ident.is (c.one_name-in-Ident.ensures Ident (λ w r h p. search rules))

pub returns-in-Insert : goal.returns-in-Insert
returns-in-Insert c = rw c.in-Insert.is (c.one_card.ensures Insert (λ a r p. search rules))

pub returns-in-Before : goal.returns-in-Before
returns-in-Before c = rw c.in-Before.is (c.one_card-in-Before.ensures Before (λ a r p. search rules))

pub returns-in-Delete : goal.returns-in-Delete
returns-in-Delete c = rw c.in-Delete.is (c.range.ensures Delete (λ a b r p. search rules))

pub returns-in-Restore : goal.returns-in-Restore
returns-in-Restore c = rw c.in-Restore.is (c.range-in-Restore.ensures Restore (λ a b r p. search rules))
