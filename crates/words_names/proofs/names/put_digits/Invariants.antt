-- `names::put_digits` is right because the digits still to be put, ahead of those that are, are always the whole. Assumes nothing.
use Rattle.words.proofs.DecimalDigits.{Writes}
use Rattle.words_names.proofs.names.put_digits.Given as goal

abbrev pub invariant-loop-m : goal.invariant-loop-m
invariant-loop-m l = Writes l.n l.space l.m l.at

abbrev pub decreases-loop-m : goal.decreases-loop-m
decreases-loop-m l = l.m
