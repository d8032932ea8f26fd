use mathlib.Core.Path.{refl, ◌∙◌}
use native.Mathlib.Omega.{arith}
use Rattle.run.proofs.Ranging.{range-start, range-more, range-crowded, range-end}
use borrow.Author.Rules.{rules}
use Rattle.run.proofs.marks.mark_range.Goals as goal

pub loop-hi-init : goal.loop-hi-init
loop-hi-init c = (
  c.requires.0,
  (
    refl,
    (refl, range-start c.args.w.now c.args.g c.args.stop c.args.was c.args.n),
  ),
)

pub returns-then-hi-h : goal.returns-then-hi-h
returns-then-hi-h c =
    let l = c.loop-hi in
    let a = c.args in
    let q = c.pass_one-h in record {
      hi_in_bounds = search rules;
      marks_range = range-crowded a.w.now a.g a.stop a.was a.n l.w l.h l.invariant.1.1.1 (omega arith) l.invariant.1.1.0
          q.new.w q.result q.ensures.passes c.if-hi-h.true;
    }

pub loop-hi-smaller : goal.loop-hi-smaller
loop-hi-smaller c = omega (arith, c.pass_one-h.ensures.hi_in_bounds.1 c.if-hi-h.false)

pub loop-hi-preserved : goal.loop-hi-preserved
loop-hi-preserved c =
    let l = c.loop-hi in
    let a = c.args in
    let q = c.pass_one-h in (
      (omega arith, omega arith),
      (
        refl,
        (
          q.auto.w ∙ l.invariant.1.1.0,
          range-more a.w.now a.g a.stop a.was a.n l.w l.h l.invariant.1.1.1 (omega arith) q.new.w q.result
              q.ensures.passes q.auto.w c.if-hi-h.false (omega arith),
        ),
      ),
    )

pub returns : goal.returns
returns c =
    let l = c.loop-hi in
    let a = c.args in record { hi_in_bounds = search rules; marks_range = range-end a.w.now a.g a.stop a.was a.n l.w l.h l.invariant.1.1.1 (omega arith) (omega arith) }
