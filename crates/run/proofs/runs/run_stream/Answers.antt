-- 19 ahead of the lines.
use Rattle.run.proofs.Running.{stream-over, stream-within}
use Rattle.run.proofs.runs.run_stream.Goals as goal

pub returns-then-stream-gt-STREAM : goal.returns-then-stream-gt-STREAM
returns-then-stream-gt-STREAM c = let a = c.args in stream-over a.old.now a.stream.now a.space.now c.if-stream-gt-STREAM.true

pub returns : goal.returns
returns c =
    let a = c.args in
    let r = c.run_lines in
    stream-within a.old.now a.stream.now a.space.now r.new.space r.result c.if-stream-gt-STREAM.false r.ensures
