-- `names::number_read` is right because the number so far, with the digits left, is always the whole. Assumes nothing.
use Rattle.words.proofs.DecimalDigits.{Reads}
use Rattle.words_names.proofs.names.number_read.Given as goal

abbrev pub invariant-loop-d : goal.invariant-loop-d
invariant-loop-d l = Reads l.digits l.n l.d-index
