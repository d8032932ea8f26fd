-- Each turn writes the row of one entry more. Assumes nothing.
use mathlib.Core.Path.{◌≡◌}
use lib.ListN.{length}
use Rattle.keeper_directory.specs.Parts.{row_at}
use Rattle.keeper_directory.proofs.RowBytes.{front, row-at-long}
use Rattle.keeper_directory.proofs.entry_rows.put_rows.Given as goal

abbrev pub invariant-loop-i : goal.invariant-loop-i
invariant-loop-i l = l.rows ≡ front (row_at l.directory l.kinds l.flags) (row-at-long l.directory l.kinds l.flags) l.initial.rows l.i
