-- The library is taken up and settled, the lines are obeyed on it, and the last state is written out or the line that was refused is answered.
use mathlib.Core.Path.{subst}
use Rattle.run.specs.Streamed.{in_arrays, SaneEnd, ObeysStream}
use Rattle.run.proofs.Running.{sane-again, begun-held, from-ended, from-stopped, lines-run}
use Rattle.std.proofs.lemmas.Result.{err_from_is_err_and}
use borrow.Author.Rules.{rules}
use Rattle.run.proofs.runs.run_lines.Goals as goal

pub load-d-requires : goal.load-d-requires
load-d-requires c = (c.requires.0, (search rules, (search rules, (search rules, search rules))))

pub resettle-requires : goal.resettle-requires
resettle-requires c = let ld = c.load-d in (ld.ensures.sane.0, (ld.ensures.sane.1, (ld.auto.dir, search rules)))

pub obey_stream-requires : goal.obey_stream-requires
obey_stream-requires c =
    let ld = c.load-d in
    let rs = c.resettle in
    (sane-again ld.new.w rs.new.w ld.result rs.auto.w ld.ensures.sane.0, (ld.auto.dir, (search rules, (search rules, (search rules, c.requires.1)))))

pub finish-requires : goal.finish-requires
finish-requires c =
    let os = c.obey_stream in
    (subst (SaneEnd os.new.w) c.in_ok-e.was os.ensures.sane_end, (search rules, search rules))

pub returns : goal.returns
returns c =
    let a = c.args in
    let ld = c.load-d in
    let rs = c.resettle in
    let os = c.obey_stream in
    let here = in_arrays rs.new.w ld.new.dir ld.new.names ld.new.decks rs.new.flags in
    let new = in_arrays os.new.w os.new.dir os.new.names os.new.decks os.new.flags in
    let begun = begun-held a.old.now ld.new.w ld.new.dir ld.new.names ld.new.decks ld.result rs.new.w rs.new.flags ld.ensures.loads rs.ensures in
    let obeys = subst (ObeysStream here ld.result a.stream.now new) c.in_ok-e.was os.ensures.obeys_stream in
    let f = c.finish in
    lines-run a.old.now here ld.result a.stream.now a.space.now f.new.space f.result begun (from-ended here ld.result a.stream.now new c.in_ok-e.e a.space.now f.new.space f.result obeys f.ensures)

pub returns-in_err-e : goal.returns-in_err-e
returns-in_err-e c =
    let a = c.args in
    let ld = c.load-d in
    let rs = c.resettle in
    let os = c.obey_stream in
    let here = in_arrays rs.new.w ld.new.dir ld.new.names ld.new.decks rs.new.flags in
    let new = in_arrays os.new.w os.new.dir os.new.names os.new.decks os.new.flags in
    let begun = begun-held a.old.now ld.new.w ld.new.dir ld.new.names ld.new.decks ld.result rs.new.w rs.new.flags ld.ensures.loads rs.ensures in
    let obeys = subst (ObeysStream here ld.result a.stream.now new) c.in_err-e.was os.ensures.obeys_stream in
    let q = err_from_is_err_and c.from_residual.result c.from_residual.ensures.1 in
    rw (q.1, q.2) (lines-run a.old.now here ld.result a.stream.now a.space.now a.space.now _ begun (from-stopped here ld.result a.stream.now new c.in_err-e.field-0.0 a.space.now obeys))
