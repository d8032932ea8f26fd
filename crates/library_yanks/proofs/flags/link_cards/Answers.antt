use native.Mathlib.Omega.{arith}
use Rattle.library_yanks.proofs.Chaining.{link_start, link-more, link-end}
use Rattle.library_yanks.proofs.flags.link_cards.Goals as goal

pub loop-at-init : goal.loop-at-init
loop-at-init c = link_start c.args.cards.now c.args.link.now 1024

pub loop-at-preserved : goal.loop-at-preserved
loop-at-preserved c =
    let l = c.loop-at in
    let p = c.put_link in
    link-more c.args.cards.now l.first l.link l.at l.invariant c.loop-at-test.true (omega arith) _ c.see-c.ensures.value _ _ p.ensures.first_after p.ensures.link_after

pub returns : goal.returns
returns c = let l = c.loop-at in link-end c.args.cards.now l.first l.link l.at l.invariant c.loop-at-test.false
