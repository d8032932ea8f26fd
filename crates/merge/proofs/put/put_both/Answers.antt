-- The second list is put where the first ends.
use mathlib.Core.Path.{ap, ◌∙◌}
use Prim.Native.Nat.{◌+◌}
use lib.ListN.{length}
use Rattle.words_lists.specs.Over.{over}
use Rattle.words_lists.proofs.OverLists.{over-then}
use Rattle.merge.proofs.put.put_both.Goals as goal

pub returns : goal.returns
returns c =
    let a = c.args in
    c.put-2.ensures
    ∙ ap (over (a.at + length a.first.now) a.second.now) c.put.ensures
    ∙ over-then a.at a.first.now a.second.now a.space.now c.requires
