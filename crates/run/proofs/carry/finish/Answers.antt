-- The counts of the library in work fit their fields, so it is written exactly where the space has room.
use Prim.Native.Nat.{◌+◌}
use native.Mathlib.Omega.{arith}
use mathlib.Core.Path.{sym, ◌∙◌}
use lib.Seq.{length-take-le}
use Rattle.run.proofs.Writing.{finish-crowded, finish-written}
use Rattle.run.proofs.carry.finish.Goals as goal

pub slice_bounds-write_library-end : goal.slice_bounds-write_library-end
slice_bounds-write_library-end c =
    let a = c.args in
    let pre = c.requires in
    sym (length-take-le a.d.entries a.dir.now (omega (arith, pre.0.entries, pre.1.0)))

pub slice_bounds-write_library-end-2 : goal.slice_bounds-write_library-end-2
slice_bounds-write_library-end-2 c =
    let a = c.args in
    let pre = c.requires in
    sym (length-take-le (a.d.decks + 1) a.names.now (omega (arith, pre.0.decks, pre.1.1)))

pub slice_bounds-write_library-end-3 : goal.slice_bounds-write_library-end-3
slice_bounds-write_library-end-3 c =
    let a = c.args in
    let pre = c.requires in
    sym (length-take-le a.d.gap.lo a.w.now (omega (arith, pre.0.ordered)))

pub returns-then-write_library : goal.returns-then-write_library
returns-then-write_library c =
    let a = c.args in
    let pre = c.requires in
    let l = c.write_library in
    finish-written a.w.now a.dir.now a.names.now a.d pre.0 pre.1.0 pre.1.1 a.space.now _ l.ensures.space_after (sym l.ensures.value ∙ c.if-write_library.true)

pub returns : goal.returns
returns c =
    let a = c.args in
    let pre = c.requires in
    let l = c.write_library in
    finish-crowded a.w.now a.dir.now a.names.now a.d pre.0 pre.1.0 pre.1.1 a.space.now _ l.ensures.space_after (sym l.ensures.value ∙ c.if-write_library.false)
