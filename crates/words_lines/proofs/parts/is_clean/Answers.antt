-- What follows the parameters is blank where the blanks after them reach the line's end.
use mathlib.Core.Path.{ap, ◌∙◌}
use lib.Dec.{eqb}
use Rattle.words.specs.Base.{all, drop_until}
use Rattle.words.specs.Display.{blank}
use Rattle.words_lines.specs.Directive.{is_clean}
use Rattle.words_lines.proofs.CutAtFirst.{part-from}
use Rattle.words_lines.proofs.FieldPlaces.{clean-to}
use Rattle.words_lines.proofs.parts.is_clean.Goals as goal

pub returns : goal.returns
unfolding is_clean
returns c =
    let l = c.args.line.now in
    let at = c.field_start-at in
    let e = c.place_of-e in
    let n = c.place_of in
    clean-to l e.result n.result e.ensures.within n.ensures.place
    ∙ ap (all (eqb blank)) (part-from (eqb blank) l at.result e.result e.ensures.place ∙ ap (drop_until (eqb blank)) at.ensures.start)
