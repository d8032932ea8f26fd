-- The name's end is found first; what `passed` says of the byte there decides how far the parameters are.
use Rattle.words_lines.proofs.FieldPlaces.{after-end, after-comma, after-blanks}
use borrow.Author.Rules.{rules}
use Rattle.words_lines.proofs.parts.field_start.Goals as goal

pub returns-then-e-line-clause-start : goal.returns-then-e-line-clause-start
returns-then-e-line-clause-start c =
    let e = c.place_of-e in after-end c.args.line.now e.result e.ensures.place c.if-e-line.true

pub returns-then-line-e-eq-COMMA-clause-start : goal.returns-then-line-e-eq-COMMA-clause-start
returns-then-line-e-eq-COMMA-clause-start c =
    let e = c.place_of-e in after-comma c.args.line.now e.result e.ensures.place (search rules) c.if-line-e-eq-COMMA.true

pub returns-clause-start : goal.returns-clause-start
returns-clause-start c =
    let e = c.place_of-e in
    after-blanks c.args.line.now e.result e.ensures.place (search rules) c.if-line-e-eq-COMMA.false c.place_of.result c.place_of.ensures.place
