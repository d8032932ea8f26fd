-- The text fits, so that it is put. Assumes nothing.
use mathlib.Core.Path.{◌∙◌}
use Rattle.words_lists.proofs.OverLists.{over-put}
use Rattle.compile_file.proofs.line.put_text.Goals as goal

pub returns-clause-out_after : goal.returns-clause-out_after
returns-clause-out_after c = let a = c.args in c.put.ensures ∙ over-put a.at a.text.now a.out.now c.requires
