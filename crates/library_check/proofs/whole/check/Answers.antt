-- Rows 1 to 6, then the rows after them. Assumes nothing.
use mathlib.Core.Path.{sym, ◌∙◌}
use Rattle.library_check.proofs.Checking.{first-refused, first-none, first-sound}
use borrow.Author.Rules.{rules}
use Rattle.library_check.proofs.whole.check.Goals as goal

pub returns-in_err-first_rows : goal.returns-in_err-first_rows
returns-in_err-first_rows c = search rules ∙ first-refused c.args.image.now _ (sym c.first_rows.ensures ∙ c.in_err-first_rows.was)

pub check_cards-requires : goal.check_cards-requires
check_cards-requires c =
    let t = first-none c.args.image.now (sym c.first_rows.ensures ∙ c.in_ok-first_rows.was) in
    record { sized = t.0; tabled = t.1 }

pub returns : goal.returns
returns c = first-sound c.args.image.now (sym c.first_rows.ensures ∙ c.in_ok-first_rows.was) c.check_cards.result c.check_cards.ensures
