-- The names are the parts between blanks, and the name is listed where it is one of them.
use Rattle.std.proofs.Common.{rules, tests, eqb, ◌∙◌}
use Rattle.std.proofs.lemmas.Iterator.Search.{any_from_yields_List}
use Rattle.std.proofs.lemmas.Iterator.Splits.{YieldsList-from_slice_split}
use Rattle.std.specs.Cmp.Lexicographic.{pointwise}
use Rattle.words.specs.Base.{same}
use Rattle.words.specs.Display.{blank}
use Rattle.words_lines.proofs.SplitList.{any-list, split-slice, same-bytes}
use Rattle.words_lines.proofs.FieldPlaces.{eqb_comm}
use Rattle.words_lines.proofs.scan.listed.Goals as goal

pub returns : goal.returns
returns c =
    let n = c.args.name.now in
    let s = c.split.ensures in
    any_from_yields_List (λ p. pointwise eqb p n) _ _ _ c.any.ensures.ran
    (YieldsList-from_slice_split _ (λ b. eqb b blank) c.args.names.now s.rest s.done s.closure (λ x b q k. search (rules, tests)))
    (λ x b q k. search (rules, tests))
    ∙ any-list (λ p. pointwise eqb p n) (same n) (λ p. same-bytes p n) _
    ∙ rw (split-slice (λ b. eqb b blank) (eqb blank) (λ b. eqb_comm b blank) c.args.names.now)
