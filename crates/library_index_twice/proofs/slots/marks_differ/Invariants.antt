-- A key that stood ahead would have marked its slot. Assumes nothing.
use Rattle.library_index_twice.proofs.KeySlots.{Marking}
use Rattle.library_index_twice.proofs.slots.marks_differ.Given as goal

abbrev pub invariant-loop-key : goal.invariant-loop-key
invariant-loop-key l = Marking l.keys l.starts l.marks l.key-index
