use mathlib.Core.Path.{refl, ◌∙◌}
use Rattle.library_yanks_bits.specs.SettledBits.{flagged, card_bits}
use Rattle.library_yanks_bits.proofs.Cards.{ahead-start, ahead_more, ahead-end, none-bits}
use Rattle.library_yanks_bits.proofs.settle_bits.Goals as goal

pub loop-at-init : goal.loop-at-init
loop-at-init c = (refl, ahead-start (card_bits (flagged c.args.flags.now)) c.args.w.now)

pub loop-at-preserved : goal.loop-at-preserved
loop-at-preserved c =
    let a = c.args in
    let l = c.loop-at in
    let s = c.settle_card-at in (
      s.auto.w ∙ l.invariant.0,
      ahead_more (card_bits (flagged a.flags.now)) a.w.now l.w l.at l.invariant.1 c.loop-at-test.true
          s.new.w s.result s.auto.w s.ensures.lower_bound.0 s.ensures.w_after s.ensures.lower_bound.1,
    )

pub returns : goal.returns
returns c =
    let a = c.args in
    let l = c.loop-at in
    ahead-end (card_bits (flagged a.flags.now)) a.w.now (none-bits (flagged a.flags.now)) l.w l.at l.invariant.1 c.loop-at-test.false
