-- Of a YANK line each name is asked. Assumes nothing.
use mathlib.Core.Path.{sym, ap, ◌∙◌}
use Rattle.library.specs.Yanks.{is_yank}
use Rattle.library_check.proofs.Naming.{yank-field}
use Rattle.library_check.proofs.yanks.yank_line_ok.Goals as goal

pub returns-then-asks_yank : goal.returns-then-asks_yank
returns-then-asks_yank c =
    let a = c.args in
    yank-field a.directory.now.names.now a.list.now.names.now a.own a.line.now c.names_ok.result _ c.names_ok.ensures c.field_of.ensures (ap is_yank (sym c.directive.ensures) ∙ sym c.asks_yank.ensures ∙ c.if-asks_yank.true)
