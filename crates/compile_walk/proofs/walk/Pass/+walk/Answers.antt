use native.Mathlib.Omega.{arith}
use mathlib.Core.Path.{refl, sym, ◌∙◌}
use Rattle.std.specs.Prelude.{Err}
use Rattle.library_image.proofs.CardPlaces.{line_taken}
use Rattle.std.proofs.lemmas.Result.{err_from_is_err_and}
use Rattle.compile_walk.specs.TableView.{shown_of, table_view}
use Rattle.compile_walk.proofs.CardWalk.{visit-passed, visit-text, visit-stopped, visit-opened, visit-starless, opened_some, run_past, run_end, run_on, run-halt}
use Rattle.compile_walk.proofs.walk.Pass.+walk.Goals as goal

pub returns-then-cards-at : goal.returns-then-cards-at
returns-then-cards-at t c =
    let a = c.args in
    let p = a.self.now in
    let l = c.loop-at in
    sym (l.invariant ∙ run_past p.writes (table_view p.image.now p.table.now) a.depth p.image.now l.at a.cards.to l.counts.lines l.counts.calls l.out c.if-cards-at.true)

pub returns-in_err-counts : goal.returns-in_err-counts
returns-in_err-counts t c =
    let a = c.args in
    let p = a.self.now in
    let l = c.loop-at in
    let s = c.see-c.result in
    let r = err_from_is_err_and c.from_residual.result c.from_residual.ensures.1 in
    rw (r.1, r.2) (sym (l.invariant ∙ run-halt p.writes (table_view p.image.now p.table.now) a.depth p.image.now l.at a.cards.to l.counts.lines l.counts.calls l.out c.loop-at-test.true c.if-cards-at.false _ c.see-c.ensures.value _ _ (visit-starless p.writes p.image.now p.table.now a.depth s l.counts.lines l.counts.calls l.out c.if-c.true (sym c.star_at.ensures ∙ c.if-not-star_at.true) _ c.put_text.ensures) _ c.in_err-counts.was))

pub loop-at-preserved-in_ok-counts : goal.loop-at-preserved-in_ok-counts
loop-at-preserved-in_ok-counts t c =
    let a = c.args in
    let p = a.self.now in
    let l = c.loop-at in
    let s = c.see-c.result in
    l.invariant ∙ run_on p.writes (table_view p.image.now p.table.now) a.depth p.image.now l.at a.cards.to l.counts.lines l.counts.calls l.out c.loop-at-test.true c.if-cards-at.false _ c.see-c.ensures.value _ _ (visit-starless p.writes p.image.now p.table.now a.depth s l.counts.lines l.counts.calls l.out c.if-c.true (sym c.star_at.ensures ∙ c.if-not-star_at.true) _ c.put_text.ensures) _ c.in_ok-counts.was

pub returns-in_err-counts-in-Ok-None : goal.returns-in_err-counts-in-Ok-None
returns-in_err-counts-in-Ok-None t c =
    let a = c.args in
    let p = a.self.now in
    let l = c.loop-at in
    let s = c.see-c.result in
    let n = c.line_of-n in
    let said = line_taken p.image.now _ n.new.line s.text s.next n.result n.ensures.value n.ensures.line_after in
    let r = err_from_is_err_and c.from_residual-in_err-counts-in-Ok-None.result c.from_residual-in_err-counts-in-Ok-None.ensures.1 in
    rw (r.1, r.2) (sym (l.invariant ∙ run-halt p.writes (table_view p.image.now p.table.now) a.depth p.image.now l.at a.cards.to l.counts.lines l.counts.calls l.out c.loop-at-test.true c.if-cards-at.false _ c.see-c.ensures.value _ _ (visit-text p.writes p.image.now p.table.now a.depth s l.counts.lines l.counts.calls l.out c.if-c.true _ said (rw c.in-Ok-None.field-0-is at c.in-Ok-None.ensures) _ c.put.ensures) _ c.in_err-counts-in-Ok-None.was))

pub loop-at-preserved-in_ok-counts-in-Ok-None : goal.loop-at-preserved-in_ok-counts-in-Ok-None
loop-at-preserved-in_ok-counts-in-Ok-None t c =
    let a = c.args in
    let p = a.self.now in
    let l = c.loop-at in
    let s = c.see-c.result in
    let n = c.line_of-n in
    let said = line_taken p.image.now _ n.new.line s.text s.next n.result n.ensures.value n.ensures.line_after in
    l.invariant ∙ run_on p.writes (table_view p.image.now p.table.now) a.depth p.image.now l.at a.cards.to l.counts.lines l.counts.calls l.out c.loop-at-test.true c.if-cards-at.false _ c.see-c.ensures.value _ _ (visit-text p.writes p.image.now p.table.now a.depth s l.counts.lines l.counts.calls l.out c.if-c.true _ said (rw c.in-Ok-None.field-0-is at c.in-Ok-None.ensures) _ c.put.ensures) _ c.in_ok-counts-in-Ok-None.was

pub returns-in_err-counts-in-Ok-Some : goal.returns-in_err-counts-in-Ok-Some
returns-in_err-counts-in-Ok-Some t c =
    let a = c.args in
    let p = a.self.now in
    let l = c.loop-at in
    let s = c.see-c.result in
    let n = c.line_of-n in
    let said = line_taken p.image.now _ n.new.line s.text s.next n.result n.ensures.value n.ensures.line_after in
    let r = err_from_is_err_and c.from_residual-in_err-counts-in-Ok-Some.result c.from_residual-in_err-counts-in-Ok-Some.ensures.1 in
    rw (r.1, r.2) (sym (l.invariant ∙ run-halt p.writes (table_view p.image.now p.table.now) a.depth p.image.now l.at a.cards.to l.counts.lines l.counts.calls l.out c.loop-at-test.true c.if-cards-at.false _ c.see-c.ensures.value _ _ (visit-opened p.writes p.image.now p.table.now a.depth s l.counts.lines l.counts.calls l.out c.if-c.true _ said c.in-Ok-Some.called (rw c.in-Ok-Some.field-0-is at c.in-Ok-Some.ensures) _ c.walk.ensures) _ c.in_err-counts-in-Ok-Some.was))

pub loop-at-preserved-in_ok-counts-in-Ok-Some : goal.loop-at-preserved-in_ok-counts-in-Ok-Some
loop-at-preserved-in_ok-counts-in-Ok-Some t c =
    let a = c.args in
    let p = a.self.now in
    let l = c.loop-at in
    let s = c.see-c.result in
    let n = c.line_of-n in
    let said = line_taken p.image.now _ n.new.line s.text s.next n.result n.ensures.value n.ensures.line_after in
    l.invariant ∙ run_on p.writes (table_view p.image.now p.table.now) a.depth p.image.now l.at a.cards.to l.counts.lines l.counts.calls l.out c.loop-at-test.true c.if-cards-at.false _ c.see-c.ensures.value _ _ (visit-opened p.writes p.image.now p.table.now a.depth s l.counts.lines l.counts.calls l.out c.if-c.true _ said c.in-Ok-Some.called (rw c.in-Ok-Some.field-0-is at c.in-Ok-Some.ensures) _ c.walk.ensures) _ c.in_ok-counts-in-Ok-Some.was

pub returns-in-Err : goal.returns-in-Err
returns-in-Err t c =
    let a = c.args in
    let p = a.self.now in
    let l = c.loop-at in
    let s = c.see-c.result in
    let n = c.line_of-n in
    let said = line_taken p.image.now _ n.new.line s.text s.next n.result n.ensures.value n.ensures.line_after in
    sym (l.invariant ∙ run-halt p.writes (table_view p.image.now p.table.now) a.depth p.image.now l.at a.cards.to l.counts.lines l.counts.calls l.out c.loop-at-test.true c.if-cards-at.false _ c.see-c.ensures.value (Err c.halt.result) l.out (rw c.halt.ensures (visit-stopped p.writes p.image.now p.table.now a.depth s l.counts.lines l.counts.calls l.out c.if-c.true _ said _ c.in-Err.ensures)) c.halt.result refl)

pub overflow_add-calls : goal.overflow_add-calls
overflow_add-calls t c =
    let o = c.in-Ok-Some in
    let some = opened_some _ _ c.args.depth c.loop-at.counts.calls o.called (rw o.field-0-is at o.ensures) in
    omega (arith, some.1)

pub overflow_sub-depth : goal.overflow_sub-depth
overflow_sub-depth t c =
    let o = c.in-Ok-Some in
    let some = opened_some _ _ c.args.depth c.loop-at.counts.calls o.called (rw o.field-0-is at o.ensures) in
    omega (arith, some.0)

pub walk-requires : goal.walk-requires
walk-requires t c =
    let o = c.in-Ok-Some in
    let some = opened_some _ _ c.args.depth c.loop-at.counts.calls o.called (rw o.field-0-is at o.ensures) in
    (omega (arith, some.0, c.decreases), tt)

pub loop-at-preserved : goal.loop-at-preserved
loop-at-preserved t c =
    let a = c.args in
    let p = a.self.now in
    let l = c.loop-at in
    let s = c.see-c.result in
    l.invariant ∙ run_on p.writes (table_view p.image.now p.table.now) a.depth p.image.now l.at a.cards.to l.counts.lines l.counts.calls l.out c.loop-at-test.true c.if-cards-at.false _ c.see-c.ensures.value _ _ (visit-passed p.writes p.image.now p.table.now a.depth (shown_of p.image.now s) l.counts.lines l.counts.calls l.out s.active c.if-c.false) l.counts refl

pub loop-at-init : goal.loop-at-init
loop-at-init t c = refl

pub returns : goal.returns
returns t c =
    let a = c.args in
    let p = a.self.now in
    let l = c.loop-at in
    sym (l.invariant ∙ run_end p.writes (table_view p.image.now p.table.now) a.depth p.image.now l.at a.cards.to l.counts.lines l.counts.calls l.out c.loop-at-test.false)
