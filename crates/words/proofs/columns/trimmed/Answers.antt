use mathlib.Core.Path.{◌∙◌}
use Rattle.words.proofs.TrimmedLine.{last-blank, last-stays}
use Rattle.words.proofs.columns.trimmed.Goals as goal

pub returns-then-last-ne-BLANK : goal.returns-then-last-ne-BLANK
returns-then-last-ne-BLANK c = let l = c.loop-rest in last-stays l.rest.now c.in-len1-up.len_at_least c.if-last-ne-BLANK.true ∙ l.invariant

pub loop-rest-preserved : goal.loop-rest-preserved
loop-rest-preserved c = let l = c.loop-rest in last-blank l.rest.now c.in-len1-up.len_at_least c.if-last-ne-BLANK.false ∙ l.invariant
