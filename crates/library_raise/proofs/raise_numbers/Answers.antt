use mathlib.Core.Path.{refl, ◌∙◌}
use Rattle.library_raise.specs.Raised.{card_raised}
use Rattle.library_raise.proofs.CardRaised.{none-raised}
use Rattle.library_yanks_bits.proofs.Cards.{ahead-start, ahead_more, ahead-end}
use Rattle.library_raise.proofs.raise_numbers.Goals as goal

pub loop-at-init : goal.loop-at-init
loop-at-init c = (refl, ahead-start (card_raised c.args.n) c.args.w.now)

pub loop-at-preserved : goal.loop-at-preserved
loop-at-preserved c =
    let a = c.args in
    let l = c.loop-at in
    let s = c.raise_card-at in (
      s.auto.w ∙ l.invariant.0,
      ahead_more (card_raised a.n) a.w.now l.w l.at l.invariant.1 c.loop-at-test.true
          s.new.w s.result s.auto.w s.ensures.lower_bound.0 s.ensures.w_after s.ensures.lower_bound.1,
    )

pub returns : goal.returns
returns c =
    let a = c.args in
    let l = c.loop-at in
    ahead-end (card_raised a.n) a.w.now (none-raised a.n) l.w l.at l.invariant.1 c.loop-at-test.false
