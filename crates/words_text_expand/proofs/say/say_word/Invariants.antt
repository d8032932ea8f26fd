-- `say::say_word` is right because the columns put, then those that the codes still at the top of w say, are always the whole word's. Assumes nothing.
use Rattle.words_text_expand.proofs.SaidColumns.{SaidWord}
use Rattle.words_text_expand.proofs.say.say_word.Given as goal

abbrev pub invariant-loop-k : goal.invariant-loop-k
invariant-loop-k l = SaidWord l.word l.fn.s.ahead l.fn.s.at l.initial.line l.line l.w l.said.ahead l.said.at l._k
