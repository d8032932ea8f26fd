-- Words counted from the start are below the gap, or as far above `hi` as they are above `lo`.
use Rattle.run.proofs.Opening.{opens-low, opens-high}
use borrow.Author.Rules.{rules}
use Rattle.run.proofs.gap.open_at.Goals as goal

pub returns-then-n-lo : goal.returns-then-n-lo
returns-then-n-lo c =
    let a = c.args in
    let m = c.open_ahead in record {
      ordered = search rules;
      opens_at = opens-low a.w.now a.g c.requires.0 a.n
          c.if-n-lo.true m.new.w m.result m.ensures.opens_ahead;
    }

pub returns : goal.returns
returns c =
    let a = c.args in
    let m = c.open_ahead-2 in record {
      ordered = search rules;
      opens_at = opens-high a.w.now a.g c.requires.0 a.n
          c.if-n-lo.false m.new.w m.result m.ensures.opens_ahead;
    }
