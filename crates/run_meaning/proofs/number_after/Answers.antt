-- The largest number stays, and up to there one more fits.
use borrow.Author.Tests.{lt-ltb, le-ltb}
use Rattle.run_meaning.specs.Numbering.{number_after}
use Rattle.run_meaning.proofs.number_after.Goals as goal

pub returns-then-seq-gt-LARGEST : goal.returns-then-seq-gt-LARGEST
unfolding number_after
returns-then-seq-gt-LARGEST c = rw (lt-ltb _ _ c.if-seq-gt-LARGEST.true)

pub returns : goal.returns
unfolding number_after
returns c = rw (le-ltb _ _ c.if-seq-gt-LARGEST.false)
