-- One of a field's names passes the test just where the walk over them finds one.
use Rattle.std.proofs.Common.{rules, length, ◌∙◌}
use Rattle.std.proofs.lemmas.Iterator.Consumers.{YieldsList-from_first}
use Rattle.std.proofs.lemmas.Iterator.Search.{any_from_yields_List}
use Rattle.words_lines_asked.specs.Parameters.{names_left}
use Rattle.run.specs.YankNames.{names_in, no_set_in}
use Rattle.run.proofs.YankTests.{any-listed}
use Rattle.run.proofs.yanks.any_no_set.Goals as goal

pub returns : goal.returns
returns c =
    let a = c.args in
    any_from_yields_List (no_set_in (length a.directory.now) a.directory.now a.list.now) _ _ _ c.any.ensures.ran (YieldsList-from_first (λ w. w) names_left _ c.names_of.ensures) (λ w b q k. search rules)
    ∙ any-listed (no_set_in (length a.directory.now) a.directory.now a.list.now) (names_in a.field.now)
