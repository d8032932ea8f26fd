-- One law for each way out. Assumes nothing.
use mathlib.Core.Path.{sym, ◌∙◌}
use Rattle.library_check.proofs.Checking.{yank-at, twice-at, bit_at}
use borrow.Author.Rules.{rules}
use Rattle.library_check.proofs.whole.check_yanks.Goals as goal

pub returns-in_err-refuse : goal.returns-in_err-refuse
returns-in_err-refuse c =
    let a = c.args in
    let e = c.cards_end-end in
    let y = c.yanks_fault in
    λ ss cs no7. search rules ∙ yank-at a.directory.now a.list.now a.image.now a.from c.requires ss cs e.result e.ensures.lower_bound.1 e.ensures.cards_end y.result y.ensures _ (sym c.refuse.ensures ∙ c.in_err-refuse.was)

pub returns-in_err-refuse-2 : goal.returns-in_err-refuse-2
returns-in_err-refuse-2 c =
    let a = c.args in
    let e = c.cards_end-end in
    let y = c.yanks_fault in
    let t = c.twice_fault in
    λ ss cs no7. search rules ∙ twice-at a.directory.now a.list.now a.image.now a.from c.requires ss cs e.result e.ensures.lower_bound.1 e.ensures.cards_end y.result y.ensures (sym c.refuse.ensures ∙ c.in_ok-refuse.was) t.result t.ensures _ (sym c.refuse-2.ensures ∙ c.in_err-refuse-2.was)

pub returns : goal.returns
returns c =
    let a = c.args in
    let e = c.cards_end-end in
    let y = c.yanks_fault in
    let t = c.twice_fault in
    let b = c.stored_fault in
    λ ss cs no7. c.refuse-3.ensures ∙ bit_at a.directory.now a.list.now a.image.now a.from c.requires ss cs e.result e.ensures.lower_bound.1 e.ensures.cards_end y.result y.ensures (sym c.refuse.ensures ∙ c.in_ok-refuse.was) t.result t.ensures (sym c.refuse-2.ensures ∙ c.in_ok-refuse-2.was) no7 b.result b.ensures
