-- Ways that are all zero are those of no key. Assumes nothing.
use Rattle.library_index_twice.proofs.KeyWays.{tree-none}
use Rattle.library_index_twice.proofs.tree.tree_twice.Goals as goal

pub key_twice-requires-clause-tree : goal.key_twice-requires-clause-tree
key_twice-requires-clause-tree c = tree-none _
