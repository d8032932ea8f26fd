use native.Mathlib.Omega.{arith}
use mathlib.Core.Path.{sym, ◌∙◌}
use Rattle.std.proofs.lemmas.Result.{err_from_is_err_and}
use Rattle.compile_walk.specs.TableView.{table_view}
use Rattle.compile_walk.proofs.TableWalk.{decks-end, decks-common, decks-on, decks-halt}
use Rattle.compile_walk.proofs.walk.Pass.decks.Goals as goal

pub returns-in_err-counts : goal.returns-in_err-counts
returns-in_err-counts c =
    let p = c.args.self.now in
    let l = c.loop-rows in
    let r = err_from_is_err_and c.from_residual.result c.from_residual.ensures.1 in
    rw (r.1, r.2) (sym (l.invariant ∙ decks-halt p.writes (table_view p.image.now p.table.now) p.image.now l.rows.now l.counts.lines l.counts.calls l.out (omega arith) c.if-kind-ne-COMMON.true _ _ c.walk.ensures _ c.in_err-counts.was))

pub loop-rows-preserved-in_ok-counts : goal.loop-rows-preserved-in_ok-counts
loop-rows-preserved-in_ok-counts c =
    let p = c.args.self.now in
    let l = c.loop-rows in
    l.invariant ∙ decks-on p.writes (table_view p.image.now p.table.now) p.image.now l.rows.now l.counts.lines l.counts.calls l.out (omega arith) c.if-kind-ne-COMMON.true _ _ c.walk.ensures _ c.in_ok-counts.was

pub loop-rows-preserved : goal.loop-rows-preserved
loop-rows-preserved c =
    let p = c.args.self.now in
    let l = c.loop-rows in
    l.invariant ∙ decks-common p.writes (table_view p.image.now p.table.now) p.image.now l.rows.now l.counts.lines l.counts.calls l.out (omega arith) c.if-kind-ne-COMMON.false

pub returns : goal.returns
returns c =
    let p = c.args.self.now in
    let l = c.loop-rows in
    sym (l.invariant ∙ decks-end p.writes (table_view p.image.now p.table.now) p.image.now l.rows.now l.counts.lines l.counts.calls l.out (omega arith))
