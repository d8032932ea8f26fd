use native.Mathlib.Omega.{arith}
use mathlib.Core.Path.{ap}
use lib.ListN.{length}
use Rattle.library_image.proofs.CardPlaces.{places-end}
use Rattle.merge.proofs.CardCount.{count-on}
use Rattle.merge.proofs.counted.count_cards.Goals as goal

pub loop-at-init : goal.loop-at-init
loop-at-init c = (omega arith, (omega arith, omega arith))

pub loop-at-smaller : goal.loop-at-smaller
loop-at-smaller c = omega (arith, c.see-c.ensures.text_le_next.1.1 c.loop-at-test.true, c.see-c.ensures.text_le_next.0)

pub loop-at-preserved : goal.loop-at-preserved
loop-at-preserved c =
    let a = c.args in
    let l = c.loop-at in
    let low = c.loop-at-test.true in (
      omega (arith, l.invariant.0, c.see-c.ensures.text_le_next.1.1 low, c.see-c.ensures.text_le_next.0),
      (omega (arith, l.invariant.0, low), count-on a.image.now l.at c.see-c.result.next l.n _ low (ap (λ r. r.next) c.see-c.ensures.value) l.invariant.1.1),
    )

pub returns : goal.returns
returns c =
    let a = c.args in
    let l = c.loop-at in
    (omega (arith, l.invariant.1.1, ap length (places-end a.image.now l.at c.loop-at-test.false)), l.invariant.1.0)
