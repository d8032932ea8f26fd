-- What goes above the gap is copied up, and what is below it stays.
use Rattle.run.proofs.GapSteps.{raised}
use Rattle.run.proofs.gap.raise.Goals as goal

pub returns : goal.returns
returns c = raised c.args.w.now _ c.args.lo c.args.hi c.args.n c.requires.0 c.requires.1.0 c.requires.1.1 c.copy_within.ensures.after
