-- The cards below the gap are settled, then those above it, and the gap stays.
use native.Mathlib.Omega.{arith}
use mathlib.Core.Path.{sym}
use lib.Seq.{length-take-le}
use Rattle.library_yanks_bits.specs.SettledBits.{flagged}
use Rattle.run.proofs.Working.{resettled}
use Rattle.run.proofs.settle.settle_all.Goals as goal

pub slice_bounds-settle_bits-end-2 : goal.slice_bounds-settle_bits-end-2
slice_bounds-settle_bits-end-2 c =
    let a = c.args in
    sym (length-take-le a.g.lo a.w.now (omega arith))

pub returns : goal.returns
returns c =
    let a = c.args in
    let pre = c.requires in
    let s = c.settle_bits in
    let t = c.settle_bits-2 in
    resettled a.w.now a.g pre.0 (flagged a.f.now) pre.1 s.new.w s.ensures t.new.w t.ensures
