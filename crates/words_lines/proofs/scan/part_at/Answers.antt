-- The part from a place up to where the search stops is what is ahead of that.
use native.Mathlib.Omega.{arith}
use lib.ListN.{drop_of_length-le}
use Rattle.words_lines.specs.Scan.{stops_at}
use Rattle.words_lines.proofs.CutAtFirst.{part-ahead}
use Rattle.words_lines.proofs.scan.part_at.Goals as goal

pub returns-then-s-at : goal.returns-then-s-at
returns-then-s-at c =
    let a = c.args in
    rw (drop_of_length-le a.s.now {i = a.at} (omega arith))

pub returns : goal.returns
returns c =
    let a = c.args in
    part-ahead (stops_at a.stop) a.s.now a.at c.place_of-e.result c.place_of-e.ensures.place
