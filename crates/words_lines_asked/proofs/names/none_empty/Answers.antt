-- The parameters are the parts between commas.
use Rattle.std.proofs.Common.{rules, tests, eqb, not, length, refl, ◌∙◌}
use Rattle.std.proofs.lemmas.Iterator.Search.{all_from_yields_List}
use Rattle.std.proofs.lemmas.Iterator.Splits.{YieldsList-from_slice_split}
use Rattle.std.specs.List.{slice_split}
use Rattle.words_lines.specs.Directive.{is_comma}
use Rattle.words_lines.proofs.SplitList.{all-list, split-slice}
use Rattle.words_lines_asked.specs.Parameters.{not_empty}
use Rattle.words_lines_asked.proofs.CardsByWord.{full}
use Rattle.words_lines_asked.proofs.names.none_empty.Goals as goal

pub returns : goal.returns
returns c =
    let s = c.split.ensures in
    all_from_yields_List (λ p. not (eqb (length p) 0)) _ _ _ c.all.ensures.ran
    (YieldsList-from_slice_split _ is_comma c.args.field.now s.rest s.done s.closure (λ x b q k. search (rules, tests)))
    (λ x b q k. search (rules, tests))
    ∙ all-list (λ p. not (eqb (length p) 0)) not_empty full (slice_split is_comma c.args.field.now)
    ∙ rw (split-slice is_comma is_comma (λ b. refl) c.args.field.now)
