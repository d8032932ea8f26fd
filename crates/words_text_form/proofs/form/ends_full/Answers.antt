-- `form::ends_full` is right because the last word decides. Assumes nothing.
use Rattle.std.proofs.Common.{arith}
use Rattle.std.proofs.lemmas.Grind.{common_steps}
use Rattle.words_text_form.proofs.FormWalk.{last_word_lem, no_word}
use Rattle.words_text_form.proofs.form.ends_full.Goals as goal

pub returns : goal.returns
returns c = grind (arith, common_steps, last_word_lem, no_word)
