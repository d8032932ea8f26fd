use mathlib.Core.Path.{refl, sym, ◌∙◌}
use native.Mathlib.Omega.{arith}
use Rattle.run.proofs.Walking.{look-start, look-here, look-next, look-end}
use borrow.Author.Rules.{rules}
use Rattle.run.proofs.seek.find.Goals as goal

pub loop-at-init : goal.loop-at-init
loop-at-init c = (search rules, (omega arith, look-start))

pub returns-then-is_card : goal.returns-then-is_card
returns-then-is_card c =
    let l = c.loop-at in record { at_le_to = omega arith; finds = look-here l.invariant.1.1 c.loop-at-test.true (sym c.is_card.ensures ∙ c.if-is_card.true) _ refl refl }

pub loop-at-preserved : goal.loop-at-preserved
loop-at-preserved c =
    let l = c.loop-at in
    (omega arith, (omega arith, look-next l.invariant.1.1 c.loop-at-test.true (sym c.is_card.ensures ∙ c.if-is_card.false) c.next_card-at.result c.next_card-at.ensures.value))

pub returns : goal.returns
returns c =
    let l = c.loop-at in record { at_le_to = search rules; finds = look-end l.invariant.1.1 c.loop-at-test.false _ refl refl }
