use Rattle.std.proofs.Common.{rules}
use Rattle.std.proofs.lemmas.Slice.{overwrites}
use Rattle.words_text_expand.proofs.columns.put_columns.Goals as goal

pub returns-clause-line_unchanged : goal.returns-clause-line_unchanged
returns-clause-line_unchanged c = search (rules, overwrites)
