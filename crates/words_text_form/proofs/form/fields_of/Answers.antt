-- `form::fields_of` is right because the table has the fields of each code. Assumes nothing.
use Rattle.words_text_form.proofs.FormTable.{held-at}
use Rattle.words_text_form.proofs.form.fields_of.Goals as goal

pub returns : goal.returns
returns c = held-at c.args.c c.requires
