-- `form::is_text` is right because words are text where their codes, taken one by one, are in the one right form. Assumes nothing.
use Rattle.words_text_form.proofs.FormWalk.{Walking}
use Rattle.words_text_form.proofs.form.is_text.Given as goal

abbrev pub invariant-loop-word : goal.invariant-loop-word
invariant-loop-word l = Walking l.text l.walk.state.place l.walk.columns l.word-index
