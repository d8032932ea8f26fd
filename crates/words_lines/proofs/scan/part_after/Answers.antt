-- The part from the place after the one where the search stops is what is beyond it; at the end both are nothing.
use Rattle.words_lines.specs.Scan.{stops_at}
use Rattle.words_lines.proofs.CutAtFirst.{tail-beyond, tail-end}
use Rattle.words_lines.proofs.scan.part_after.Goals as goal

pub returns-then-e-s : goal.returns-then-e-s
returns-then-e-s c =
    let a = c.args in
    let e = c.place_of-e in
    tail-end (stops_at a.stop) a.s.now 0 e.result e.ensures.place c.if-e-s.true

pub returns : goal.returns
returns c =
    let a = c.args in
    let e = c.place_of-e in
    tail-beyond (stops_at a.stop) a.s.now 0 e.result e.ensures.place
