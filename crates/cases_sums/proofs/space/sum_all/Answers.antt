use mathlib.Core.Path.{◌≡◌, sym, ◌∙◌}
use native.Mathlib.Omega.{arith}
use lib.ListN.{length}
use Rattle.cases_sums.proofs.SumRest.{sum-more, sum-none}
use Rattle.cases_sums.proofs.space.sum_all.Goals as goal

pub loop-x-preserved : goal.loop-x-preserved
loop-x-preserved g c =
    let l = c.loop-x in
    record {
      inside = omega arith;
      below = c.added-sum.ensures.upper_bound;
      owed = rw c.added-sum.ensures.value (sym (sum-more g.T.Summed.numbers c.args.s.now l.sum l.x-index c.x-item.result c.loop-x-test.true c.x-item.is) ∙ l.invariant.owed);
    }

pub returns : goal.returns
returns g c =
    let l = c.loop-x in
    let e : l.x-index ≡ length c.args.s.now = omega arith in
    sym (sum-none g.T.Summed.numbers c.args.s.now l.sum) ∙ rw e at l.invariant.owed
