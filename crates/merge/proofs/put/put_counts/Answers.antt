-- Both words are written over the first two.
use Rattle.words_lists.proofs.OverLists.{head-two}
use Rattle.merge.proofs.put.put_counts.Goals as goal

pub returns : goal.returns
returns c =
    head-two c.args.space.now _ _ c.requires.in_bounds.1.1
