-- A YANK line names what its field names, any other nothing.
use mathlib.Core.Path.{sym, ap, ◌∙◌}
use Rattle.library.specs.Yanks.{is_yank}
use Rattle.library_yanks.proofs.Marking.{names-yank, names-other}
use Rattle.library_yanks.proofs.marks.mark_line.Goals as goal

pub returns-then-asks_yank : goal.returns-then-asks_yank
returns-then-asks_yank c =
    let e = names-yank c.args.line.now (ap is_yank (sym c.directive.ensures) ∙ sym c.asks_yank.ensures ∙ c.if-asks_yank.true) in
    rw (e, ← c.field_of.ensures) c.mark_names.ensures

pub returns-else-asks_yank : goal.returns-else-asks_yank
returns-else-asks_yank c =
    rw (names-other c.args.line.now (ap is_yank (sym c.directive.ensures) ∙ sym c.asks_yank.ensures ∙ c.if-asks_yank.false))
