-- Both passes follow the walk of the view; the first writes nothing.
use Rattle.std.proofs.lemmas.Result.{err_from_is_err_and}
use Rattle.compile.proofs.WalkAsDefined.{table-halted, table_done, table-halted-again}
use Rattle.compile_walk.specs.TableView.{table_view}
use Rattle.compile.proofs.compile_chosen.Goals as goal

pub returns-in_err-walk_decks : goal.returns-in_err-walk_decks
returns-in_err-walk_decks c = λ plain chosen.
    let a = c.args in
    let r = err_from_is_err_and c.from_residual.result c.from_residual.ensures.1 in
    rw (r.1, r.2) (table-halted a.out.now (table_view a.image.now a.table.now) plain (table_view a.image.now a.chosen.now) chosen _ _ c.walk_decks.ensures _ c.in_err-walk_decks.was)

pub returns-in_err-written : goal.returns-in_err-written
returns-in_err-written c = λ plain chosen.
    let a = c.args in
    let q = c.from_residual-in_err-written in
    let r = err_from_is_err_and q.result q.ensures.1 in
    rw (r.1, r.2) (table-halted-again a.out.now (table_view a.image.now a.table.now) plain (table_view a.image.now a.chosen.now) chosen _ _ c.walk_decks.ensures _ c.in_ok-walk_decks.was _ _ c.walk_decks-2.ensures _ c.in_err-written.was)

pub returns : goal.returns
returns c = λ plain chosen.
    let a = c.args in
    table_done a.out.now (table_view a.image.now a.table.now) plain (table_view a.image.now a.chosen.now) chosen _ _ c.walk_decks.ensures _ c.in_ok-walk_decks.was _ _ c.walk_decks-2.ensures _ c.in_ok-written.was
