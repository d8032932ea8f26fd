use native.Mathlib.Omega.{arith}
use Rattle.library_yanks.specs.Flags.{backward, owned}
use Rattle.library_yanks.proofs.Chaining.{follow-start, follow-next, follow-end}
use Rattle.library_yanks.proofs.flags.act_owner.Goals as goal

pub loop-s-init : goal.loop-s-init
loop-s-init c =
    let a = c.args in
    follow-start a.index.now.names.now a.cards.now a.link.now (owned a.cards.now a.n (backward a.cards.now)) a.flags.now _ (c.requires.linked a.n (omega arith))

pub bounds-link-p : goal.bounds-link-p
bounds-link-p c = let l = c.loop-s in let f = follow-next c.args.index.now.names.now c.args.cards.now c.args.link.now _ l.flags l.s l.invariant c.loop-s-test.true in omega (arith, f.inside)

pub loop-s-smaller : goal.loop-s-smaller
loop-s-smaller c = let l = c.loop-s in let f = follow-next c.args.index.now.names.now c.args.cards.now c.args.link.now _ l.flags l.s l.invariant c.loop-s-test.true in f.falls

pub loop-s-preserved : goal.loop-s-preserved
loop-s-preserved c = let l = c.loop-s in let f = follow-next c.args.index.now.names.now c.args.cards.now c.args.link.now _ l.flags l.s l.invariant c.loop-s-test.true in f.on _ c.act_card.ensures

pub returns : goal.returns
returns c = let l = c.loop-s in follow-end c.args.index.now.names.now c.args.cards.now c.args.link.now _ l.flags l.s l.invariant (omega (arith, c.loop-s-test.false))

pub offset_bounds-link-p : goal.offset_bounds-link-p
offset_bounds-link-p c = let l = c.loop-s in let f = follow-next c.args.index.now.names.now c.args.cards.now c.args.link.now _ l.flags l.s l.invariant c.loop-s-test.true in record { fits = omega (arith, f.inside) }
