-- A place past any stream stays, and up to there the sum fits a number.
use borrow.Author.Tests.{lt-ltb, le-ltb}
use Rattle.words_lines.specs.FirstLine.{line_after}
use Rattle.run_meaning.proofs.line_after.Goals as goal

pub returns-then-at-gt-FARTHEST : goal.returns-then-at-gt-FARTHEST
unfolding line_after
returns-then-at-gt-FARTHEST c = rw (lt-ltb _ _ c.if-at-gt-FARTHEST.true)

pub returns : goal.returns
unfolding line_after
returns c = rw (le-ltb _ _ c.if-at-gt-FARTHEST.false)
