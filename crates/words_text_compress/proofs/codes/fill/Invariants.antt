-- `codes::fill` is right because the words written, then what the codes left give after those of the word so far, are always the whole. Assumes nothing.
use Rattle.words_text_compress.proofs.FilledWords.{Filled}
use Rattle.words_text_compress.proofs.codes.fill.Given as goal

abbrev pub invariant-loop-c : goal.invariant-loop-c
invariant-loop-c l = Filled l.codes l.initial.words l.words l.m l.w l.k l.c-index
