-- Nine columns of the name, then two bytes. Assumes nothing.
use native.Mathlib.Omega.{arith}
use mathlib.Core.Path.{sym}
use lib.ListN.{length-set}
use Rattle.keeper_directory.proofs.RowBytes.{name-long, row_put}
use Rattle.keeper_directory.proofs.entry_rows.put_row.Goals as goal

pub slice_bounds-put_name-end : goal.slice_bounds-put_name-end
slice_bounds-put_name-end c = sym (name-long _ _ c.name_of_word.ensures.name_after)

pub put_name-requires : goal.put_name-requires
put_name-requires c = (name-long _ _ c.name_of_word.ensures.name_after, c.requires)

pub bounds-row-10 : goal.bounds-row-10
bounds-row-10 c = simp length-set (omega (arith, c.put_name.auto.row, c.requires))

pub returns : goal.returns
returns c =
    let a = c.args in
    row_put a.w a.kind a.yanked a.row.now _ _ _ _ c.requires c.name_of_word.ensures.name_after c.put_name.ensures c.kind_byte.ensures c.mark_byte.ensures
