use Rattle.compile_walk.proofs.NameRow.{find-reserved, find-other, row_here, row_on, row-end}
use borrow.Author.Tests.{eq-eqb, ne_eqb}
use mathlib.Core.Path.{sym, ◌∙◌}
use native.Mathlib.Omega.{arith}
use Rattle.compile_walk.proofs.calls.find_row.Goals as goal

pub returns-then-w-reserved_word : goal.returns-then-w-reserved_word
returns-then-w-reserved_word c = find-reserved c.args.w c.args.table.now (c.if-w-reserved_word.true ∙ c.reserved_word.ensures)

pub loop-rows-init : goal.loop-rows-init
loop-rows-init c = find-other c.args.w c.args.table.now (λ e. c.if-w-reserved_word.false (e ∙ sym c.reserved_word.ensures))

pub returns-then-kind-eq-COMMON : goal.returns-then-kind-eq-COMMON
returns-then-kind-eq-COMMON c = let l = c.loop-rows in sym (l.invariant ∙ row_here c.args.w l.rows.now (omega arith) c.if-name-w.true ∙ rw (eq-eqb _ _ c.if-kind-eq-COMMON.true))

pub returns-then-name-w : goal.returns-then-name-w
returns-then-name-w c = let l = c.loop-rows in sym (l.invariant ∙ row_here c.args.w l.rows.now (omega arith) c.if-name-w.true ∙ rw (ne_eqb _ _ c.if-kind-eq-COMMON.false))

pub loop-rows-preserved : goal.loop-rows-preserved
loop-rows-preserved c = let l = c.loop-rows in l.invariant ∙ row_on c.args.w l.rows.now (omega arith) c.if-name-w.false

pub returns : goal.returns
returns c = let l = c.loop-rows in sym (l.invariant ∙ row-end c.args.w l.rows.now (omega arith))
