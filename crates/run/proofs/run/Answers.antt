-- The library is checked ahead of 19; what is accepted is run.
use mathlib.Core.Path.{sym, ◌∙◌}
use Rattle.std.proofs.lemmas.Result.{err_from_is_err_and}
use Rattle.library.proofs.ImageParts.{accepted-is, readable}
use Rattle.run.proofs.Running.{run-refused, run-accepted}
use Rattle.run.proofs.run.Goals as goal

pub run_stream-requires : goal.run_stream-requires
run_stream-requires c =
    let a = c.args in
    let g = accepted-is a.old.now (sym c.check.ensures ∙ c.in_ok-check.was) in
    readable a.old.now g.0 g.1

pub returns-in_err-check : goal.returns-in_err-check
returns-in_err-check c =
    let a = c.args in
    let q = err_from_is_err_and c.from_residual.result c.from_residual.ensures.1 in
    let r = run-refused a.old.now a.stream.now a.space.now c.in_err-check.field-0.0 (sym c.check.ensures ∙ c.in_err-check.was) in
    rw (q.1, q.2) (record { answer = r.answer; space_after = r.written })

pub returns : goal.returns
returns c =
    let a = c.args in
    let s = c.run_stream in
    let r = run-accepted a.old.now a.stream.now a.space.now s.new.space s.result (sym c.check.ensures ∙ c.in_ok-check.was) s.ensures in record { answer = r.answer; space_after = r.written }
