-- The cards left, along their links, do what is still to do.
use Rattle.library_yanks.specs.Flags.{backward, owned, acted_all}
use Rattle.library_yanks.proofs.Chaining.{Following}
use Rattle.library_yanks.proofs.flags.act_owner.Given as goal

abbrev pub invariant-loop-s : goal.invariant-loop-s
invariant-loop-s l = Following l.index.names.now l.cards l.link (acted_all l.index.names.now l.cards (owned l.cards l.n (backward l.cards)) l.initial.flags) l.flags l.s

abbrev pub decreases-loop-s : goal.decreases-loop-s
decreases-loop-s l = l.s
