use mathlib.Core.Path.{refl, ◌∙◌}
use Rattle.keeper_directory.specs.Parts.{row_at}
use Rattle.keeper_directory.proofs.RowBytes.{row-at-long, row-at-is, rows_more}
use Rattle.keeper_directory.proofs.entry_rows.put_rows.Goals as goal

pub loop-i-init : goal.loop-i-init
loop-i-init c = refl

pub loop-i-preserved : goal.loop-i-preserved
loop-i-preserved c =
    let a = c.args in
    let l = c.loop-i in
    let d = a.directory.now in
    let k = a.kinds.now in
    let f = a.flags.now in
    rows_more (row_at d k f) (row-at-long d k f) a.rows.now l.i l.rows _ l.invariant (c.put_row.ensures ∙ row-at-is d k f l.i)
