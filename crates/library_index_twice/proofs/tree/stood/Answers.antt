use Prim.Native.Nat.{◌<◌}
use native.Mathlib.Omega.{arith}
use lib.ListN.{get_or}
use Rattle.library_index_twice.specs.KeyTree.{way_of}
use Rattle.library_index_twice.proofs.KeyWays.{seek-start, seek_found, seek-on, seek-put}
use Rattle.library_index_twice.proofs.tree.stood.Goals as goal

pub loop-at-init : goal.loop-at-init
loop-at-init c =
    let a = c.args in
    (c.requires.tree, seek-start a.keys.now a.ways.now a.n c.requires.tree)

pub returns-then-keys-at : goal.returns-then-keys-at
returns-then-keys-at c =
    let a = c.args in
    let l = c.loop-at in
    seek_found a.keys.now l.ways a.n l.invariant.0 l.at l.rest l.invariant.1 c.loop-at-test.true c.if-keys-at.true

pub returns-then-to-eq0 : goal.returns-then-to-eq0
returns-then-to-eq0 c =
    let a = c.args in
    let l = c.loop-at in
    seek-put a.keys.now l.ways a.n l.invariant.0 l.at l.rest l.invariant.1 c.loop-at-test.true c.if-keys-at.false c.if-to-eq0.true c.requires.n_in_bounds.1

pub loop-at-preserved : goal.loop-at-preserved
loop-at-preserved c =
    let a = c.args in
    let l = c.loop-at in
    let h : 0 < get_or l.ways (way_of l.at l.rest) 0 = omega (arith, c.if-to-eq0.false) in
    (l.invariant.0, rw (c.from-at.ensures) (seek-on a.keys.now l.ways a.n l.invariant.0 l.at l.rest l.invariant.1 c.loop-at-test.true c.if-keys-at.false h))
