use Rattle.std.proofs.Common.{rules, tests}
use mathlib.Core.Path.{◌∙◌}
use Rattle.std.proofs.lemmas.Iterator.{YieldsList-from_slice}
use Rattle.std.proofs.lemmas.Iterator.Search.{all_from_yields_List}
use Rattle.words.proofs.AllPass.{all-same}
use Rattle.words.specs.Display.{in_chart}
use Rattle.words.proofs.columns.in_set.Goals as goal

pub returns : goal.returns
returns c =
    all_from_yields_List in_chart _ _ c.all.result c.all.ensures.ran (YieldsList-from_slice c.args.line.now cc) (λ x b q k. search (rules, tests))
    ∙ all-same in_chart c.args.line.now
