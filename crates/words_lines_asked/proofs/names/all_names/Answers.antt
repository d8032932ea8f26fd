-- A name's word is 0 exactly where there is no name.
use Rattle.std.proofs.Common.{rules, tests, eqb, not, ◌∙◌}
use Rattle.std.proofs.lemmas.Iterator.Consumers.{YieldsList-from_first}
use Rattle.std.proofs.lemmas.Iterator.Search.{all_from_yields_List}
use Rattle.words_lines.specs.Directive.{params}
use Rattle.words_lines_asked.specs.Parameters.{names_left}
use Rattle.words_lines_asked.proofs.CardsByWord.{all-named}
use Rattle.words_lines_asked.proofs.names.all_names.Goals as goal

pub returns : goal.returns
returns c =
    all_from_yields_List (λ w. not (eqb w 0)) _ _ _ c.all.ensures.ran (YieldsList-from_first (λ w. w) names_left _ c.names_of.ensures) (λ w b q k. search (rules, tests))
    ∙ all-named (params c.args.field.now)
