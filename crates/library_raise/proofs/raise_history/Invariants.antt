-- Each word is raised; the history ends at the word with bit 59.
use Rattle.library_raise.proofs.FurtherRaised.{Going}
use Rattle.library_raise.proofs.raise_history.Given as goal

abbrev pub invariant-loop-i : goal.invariant-loop-i
invariant-loop-i l = Going l.n l.initial.w l.from l.w l.i
