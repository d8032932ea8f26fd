-- Of each name of the field it is asked. Assumes nothing.
use mathlib.Core.Path.{◌∙◌}
use Rattle.std.proofs.Common.{rules, tests}
use Rattle.std.proofs.lemmas.Iterator.Search.{all_from_yields_List}
use Rattle.std.proofs.lemmas.Iterator.Consumers.{YieldsList-from_first}
use Rattle.words.specs.Spelt.{word_of_name}
use Rattle.words_lines.specs.Directive.{params}
use Rattle.words_lines_asked.specs.Parameters.{names_left}
use Rattle.library_check.specs.Rows.{ok_name}
use Rattle.library_check.proofs.Naming.{all_map}
use Rattle.library_check.proofs.yanks.names_ok.Goals as goal

pub returns : goal.returns
returns c =
    let a = c.args in
    let ok = ok_name a.directory.now.names.now a.list.now.names.now a.own in
    all_from_yields_List ok _ _ _ c.all.ensures.ran (YieldsList-from_first (λ w. w) names_left _ c.names_of.ensures) (λ w b q k. search (rules, tests))
    ∙ all_map ok word_of_name (params a.field.now)
