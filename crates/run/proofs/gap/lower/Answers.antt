-- What comes below the gap is copied down, and what is above it stays.
use Rattle.run.proofs.GapSteps.{lowered}
use Rattle.run.proofs.gap.lower.Goals as goal

pub returns : goal.returns
returns c = lowered c.args.w.now _ c.args.lo c.args.hi c.args.n c.requires.0 c.requires.1 c.copy_within.ensures.after
