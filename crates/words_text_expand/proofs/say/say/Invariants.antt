-- `say::say` is right because the columns that are put, then those that the words left say, are always the whole line. Assumes nothing.
use Rattle.words_text_expand.proofs.SaidColumns.{SaidText}
use Rattle.words_text_expand.proofs.say.say.Given as goal

abbrev pub invariant-loop-word : goal.invariant-loop-word
invariant-loop-word l = SaidText l.text l.initial.line l.line l.said.ahead l.said.at l.word-index
