-- The flags are settled from the words of YANK$$$, all of them below the gap, and then all bits from the flags.
use Prim.Native.Nat.{ℕ, ◌<◌}
use mathlib.Core.Path.{◌≡◌, sym, ◌∙◌, subst}
use lib.ListN.{length, length-set}
use lib.Seq.{length-take-le}
use Rattle.run.proofs.Sums.{order-on, more-some, entry_place}
use Rattle.run.proofs.Resettling.{resettled-on, first-clear}
use Rattle.run.proofs.yanks.resettle.Goals as goal

pub slice_bounds-settle-end : goal.slice_bounds-settle-end
slice_bounds-settle-end c =
    let a = c.args in
    let pre = c.requires in
    sym (length-take-le a.d.entries a.dir.now (entry_place _ _ pre.0.entries pre.1.1.0))

pub slice_bounds-settle-end-2 : goal.slice_bounds-settle-end-2
slice_bounds-settle-end-2 c = let p = c.requires in order-on _ _ _ p.1.0 (order-on _ _ _ p.0.ordered.0 p.0.ordered.1)

pub slice_bounds-settle-end-3 : goal.slice_bounds-settle-end-3
slice_bounds-settle-end-3 c =
    let a = c.args in
    let pre = c.requires in
    sym (length-take-le a.d.lead a.w.now (order-on _ _ _ pre.1.0 (order-on _ _ _ pre.0.ordered.0 pre.0.ordered.1)))

pub settle-requires : goal.settle-requires
settle-requires c = tt

pub bounds-flags-0 : goal.bounds-flags-0
bounds-flags-0 c = subst (λ (k : ℕ). 0 < k) (sym c.settle.auto.flags) (more-some _ _ c.requires.1.1.1)

pub settle_all-requires : goal.settle_all-requires
settle_all-requires c =
    let pre = c.requires in
    let a = c.args in
    let f = c.settle in
    let same : length f.new.flags ≡ length a.flags.now = c.settle.auto.flags in
    (pre.0.ordered, first-clear f.new.flags (subst (λ (k : ℕ). 0 < k) (sym same) (more-some _ _ pre.1.1.1)))

pub shape_of-w : goal.shape_of-w
shape_of-w c = c.settle_all.auto.w

pub shape_of-flags : goal.shape_of-flags
shape_of-flags c = let f = c.settle in length-set f.new.flags 0 0 ∙ f.auto.flags

pub returns : goal.returns
returns c =
    let a = c.args in
    let pre = c.requires in
    let f = c.settle in
    let s = c.settle_all in
    let same : length f.new.flags ≡ length a.flags.now = c.settle.auto.flags in
    resettled-on a.w.now a.dir.now a.d (length a.flags.now) f.new.flags s.new.w pre.0 pre.1.0 pre.1.1.1 f.ensures same s.ensures
