-- A fault of rows 1 to 4 is the answer, and where they have none that of the cards is.
use mathlib.Core.Path.{sym, ◌∙◌}
use Rattle.library_cards.proofs.TablesThenCards.{tables-refuse, tables-pass, tables-on}
use borrow.Author.Rules.{rules}
use Rattle.library_cards.proofs.first.first_rows.Goals as goal

pub returns-in_err-table_rows : goal.returns-in_err-table_rows
returns-in_err-table_rows c = search rules ∙ tables-refuse c.args.image.now _ (sym c.table_rows.ensures ∙ c.in_err-table_rows.was)

pub cards_fault-requires : goal.cards_fault-requires
cards_fault-requires c =
    let t = tables-pass c.args.image.now (sym c.table_rows.ensures ∙ c.in_ok-table_rows.was) in
    record { sized = t.0; tabled = t.1 }

pub returns : goal.returns
returns c = c.cards_fault.ensures ∙ tables-on c.args.image.now (sym c.table_rows.ensures ∙ c.in_ok-table_rows.was)
