-- A step gives the first of the names that are left and leaves the others, or gives none where none is left.
use Rattle.std.proofs.Common.{rules, arith, ◌<◌, ◌≡◌, ◌∙◌, sym, ap, length, None}
use Rattle.words_lines.specs.Reading.{next_name}
use Rattle.words_lines_asked.specs.Parameters.{names_left}
use Rattle.words_lines_asked.proofs.NamesLeft.{left-none, left-more}
use Rattle.words_lines_asked.proofs.names.FieldNamesIterator.next.Goals as goal

pub returns-in_err-name-clause-steps : goal.returns-in_err-name-clause-steps
returns-in_err-name-clause-steps c =
    let s = c.args.self.now in
    let e : next_name s.field.now s.at ≡ None = sym c.next_name.ensures ∙ c.in_err-name.was in
    rw c.from_residual.ensures (left-none s e, left-none s e)

pub returns-clause-steps : goal.returns-clause-steps
returns-clause-steps c = left-more c.args.self.now c.in_ok-name.name (sym c.next_name.ensures ∙ c.in_ok-name.was)

pub returns-clause-goes : goal.returns-clause-goes
returns-clause-goes c =
    let s = c.args.self.now in
    let e = left-more s c.in_ok-name.name (sym c.next_name.ensures ∙ c.in_ok-name.was) in
    let fewer : length (names_left (record { field = s.field; at = c.in_ok-name.name.next })) < length (names_left s) = omega (arith, ap length e) in
    search rules
