-- No row so far has the name, so the search of the table is that of the rows that are left.
use lib.ListN.{length}
use mathlib.Core.Path.{◌≡◌}
use Rattle.compile_walk.specs.Steps.{row_in, find_row}
use Rattle.compile_walk.proofs.calls.find_row.Given as goal

abbrev pub invariant-loop-rows : goal.invariant-loop-rows
invariant-loop-rows l = find_row l.w l.table ≡ row_in l.w l.rows

abbrev pub decreases-loop-rows : goal.decreases-loop-rows
decreases-loop-rows l = length l.rows
