use mathlib.Core.Path.{sym}
use Rattle.library_index_twice.proofs.KeySlots.{mark_on}
use Rattle.library_index_twice.proofs.slots.marks_differ.Goals as goal

pub loop-key-preserved : goal.loop-key-preserved
loop-key-preserved c =
    let l = c.loop-key in
    mark_on c.args.keys.now c.args.starts.now l.marks l.key-index l.invariant c.loop-key-test.true _ (sym c.in-Some.ensures.value) c.in-Some.ensures.upper_bound c.if-marks-slot.false
