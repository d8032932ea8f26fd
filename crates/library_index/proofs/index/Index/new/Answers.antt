-- A planted tree knows every name. Assumes nothing.
use Rattle.library_index.proofs.NameTree.{planted-entry}
use Rattle.library_index.proofs.index.Index.new.Goals as goal

pub invariant_of-result : goal.invariant_of-result
invariant_of-result c = record { knows = rw c.plant.ensures (planted-entry c.args.names.now) }
