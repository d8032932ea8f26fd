use mathlib.Core.Path.{ap, ◌∙◌}
use Rattle.cases_sums.specs.Space.{sum_of}
use Rattle.cases_sums.proofs.SumRest.{each_byte}
use Rattle.cases_sums.proofs.space.sum_bytes.Goals as goal

pub returns : goal.returns
returns c = c.sum_all.ensures ∙ ap sum_of (each_byte c.args.s.now)
