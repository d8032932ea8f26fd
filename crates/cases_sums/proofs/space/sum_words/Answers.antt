use mathlib.Core.Path.{ap, ◌∙◌}
use Rattle.cases_sums.specs.Space.{sum_of}
use Rattle.cases_sums.proofs.SumRest.{each-word}
use Rattle.cases_sums.proofs.space.sum_words.Goals as goal

pub returns : goal.returns
returns c = c.sum_all.ensures ∙ ap sum_of (each-word c.args.s.now)
