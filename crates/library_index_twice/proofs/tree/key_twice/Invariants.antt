-- The ways lead to the keys ahead, so a key stood there just where they lead to it. Assumes nothing.
use Rattle.library_index_twice.specs.KeyTree.{Tree}
use Rattle.library_index_twice.proofs.KeysAhead.{Until}
use Rattle.library_index_twice.proofs.tree.key_twice.Given as goal

abbrev pub invariant-loop-n : goal.invariant-loop-n
invariant-loop-n l = Tree l.keys l.ways l.n × Until l.keys l.n
