-- Row 7, then the rows after it. Assumes nothing.
use mathlib.Core.Path.{sym, ap, ◌∙◌}
use lib.ListN.{length, drop}
use Rattle.library.specs.Check.{row7}
use Rattle.library.specs.Refused.{refused_at}
use Rattle.library.specs.declared.Fault.TheVariants.{Decks}
use Rattle.library_tables.proofs.FirstFault.{refused-on}
use Rattle.library_check.specs.Rows.{after_decks}
use Rattle.library_check.proofs.Checking.{row_at, row-on, row7-found}
use borrow.Author.Rules.{rules}
use Rattle.library_check.proofs.whole.check_decks.Goals as goal

pub returns-in_err-refuse : goal.returns-in_err-refuse
returns-in_err-refuse c =
    let a = c.args in
    let f = c.decks_fault in
    λ ss cs.
    let is = ap (refused_at Decks) (sym (row7-found a.directory.now a.list.now a.image.now a.from c.requires ss cs f.result f.ensures)) in
    search rules ∙ row_at Decks (row7 a.directory.now (drop 1 a.list.now) ss (length a.image.now)) (after_decks a.directory.now a.list.now ss) _ (is ∙ sym c.refuse.ensures ∙ c.in_err-refuse.was)

pub returns : goal.returns
returns c =
    let a = c.args in
    let f = c.decks_fault in
    λ ss cs.
    let r = row7 a.directory.now (drop 1 a.list.now) ss (length a.image.now) in
    let is = ap (refused_at Decks) (sym (row7-found a.directory.now a.list.now a.image.now a.from c.requires ss cs f.result f.ensures)) ∙ sym c.refuse.ensures ∙ c.in_ok-refuse.was in
    c.check_yanks.ensures ss cs (refused-on Decks r is) ∙ row-on Decks r (after_decks a.directory.now a.list.now ss) is
