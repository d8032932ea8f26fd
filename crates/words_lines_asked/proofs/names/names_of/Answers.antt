-- The parameters from place 0 on are all of them.
use Rattle.words_lines.proofs.FieldNames.{names_from}
use Rattle.words_lines_asked.proofs.NamesLeft.{left-from}
use Rattle.words_lines_asked.proofs.names.names_of.Goals as goal

pub returns : goal.returns
unfolding names_from
returns c = left-from (record { field = c.args.field; at = 0 })
