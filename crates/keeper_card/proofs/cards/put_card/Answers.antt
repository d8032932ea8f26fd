-- The name, the point and the digits fill the space to the end that was counted. Assumes nothing.
use native.Mathlib.Omega.{arith}
use lib.ListN.{length, length-set}
use mathlib.Core.Path.{◌∙◌}
use Rattle.words_lists.proofs.OverLists.{over-put}
use Rattle.keeper_card.proofs.PointedName.{too_short, put-pointed, pointed-answers}
use Rattle.keeper_card.proofs.cards.put_card.Goals as goal

pub returns-then-out-end : goal.returns-then-out-end
returns-then-out-end c =
    let a = c.args in
    let k = c.digits in
    too_short a.name.now a.out.now a.seq k.result k.ensures.1 c.if-out-end.true

pub shape_of-out : goal.shape_of-out
shape_of-out c =
    let b = c.put in
    omega (arith, b.auto.out, c.put_number.auto.field, length-set b.new.out (length c.args.name.now) 46)

pub returns : goal.returns
returns c =
    let a = c.args in
    let k = c.digits in
    let d = c.digits.ensures.1 in
    let fits = c.if-out-end.false in
    pointed-answers a.name.now a.out.now a.seq k.result d fits _
    (put-pointed a.name.now a.out.now a.seq k.result d fits _ _ (c.put.ensures ∙ over-put 0 a.name.now a.out.now (omega arith)) c.put_number.ensures.field_after)
