-- 64 bytes fill 22 heads: a history of fewer heads is shorter, and one of 22 is full where the last word's third byte is used.
use borrow.Author.Tests.{lt-leb}
use Rattle.run.proofs.Fullness.{full-few, full-by_last}
use Rattle.run.proofs.card.is_full.Goals as goal

pub returns-then-heads-ge-MOST_HEADS : goal.returns-then-heads-ge-MOST_HEADS
returns-then-heads-ge-MOST_HEADS c = let a = c.args in full-by_last a.w.now a.at a.heads c.if-heads-ge-MOST_HEADS.true

pub returns-else-heads-ge-MOST_HEADS : goal.returns-else-heads-ge-MOST_HEADS
returns-else-heads-ge-MOST_HEADS c = let a = c.args in rw (lt-leb 22 a.heads c.if-heads-ge-MOST_HEADS.false) (full-few a.w.now a.at a.heads c.if-heads-ge-MOST_HEADS.false)
