use mathlib.Core.Path.{refl, sym, ◌∙◌}
use native.Mathlib.Omega.{arith}
use Rattle.run.proofs.Titling.{pass-start, pass-found, pass_on, pass-end}
use borrow.Author.Rules.{rules}
use Rattle.run.proofs.load.first_title.Goals as goal

pub loop-at-init : goal.loop-at-init
loop-at-init c = (omega arith, (omega arith, pass-start))

pub returns-then-is_title : goal.returns-then-is_title
returns-then-is_title c =
    let l = c.loop-at in
    let s = c.see-c in record { at_le_to = omega arith; finds_title = pass-found l.invariant.1.1 s.result s.ensures.sees_any c.loop-at-test.true (sym c.is_title.ensures ∙ c.if-is_title.true) _ refl refl }

pub loop-at-preserved : goal.loop-at-preserved
loop-at-preserved c =
    let l = c.loop-at in
    let s = c.see-c in
    (omega arith, (omega arith, pass_on l.invariant.1.1 s.result s.ensures.sees_any c.loop-at-test.true (sym c.is_title.ensures ∙ c.if-is_title.false)))

pub returns : goal.returns
returns c = let l = c.loop-at in record { at_le_to = search rules; finds_title = pass-end l.invariant.1.1 c.loop-at-test.false _ refl refl }
