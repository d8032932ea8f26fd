-- `form::walk_word` is right because the codes still at the top of w give what the whole word gives. Assumes nothing.
use Rattle.words_text_form.proofs.FormWalk.{Walked}
use Rattle.words_text_form.proofs.form.walk_word.Given as goal

abbrev pub invariant-loop-k : goal.invariant-loop-k
invariant-loop-k l = Walked l.word l.fn.from.state.place l.fn.from.columns l.w l.walk.state.place l.walk.columns l._k
