-- Both are put, and the second is raised where it stands.
use mathlib.Core.Path.{ap, ◌∙◌}
use Prim.Native.Nat.{ℕ, ◌+◌}
use lib.ListN.{length}
use Rattle.merge.specs.Words.{raised_part}
use Rattle.merge.proofs.PutStretches.{put-raised}
use Rattle.merge.proofs.put.put_raised.Goals as goal

pub returns : goal.returns
returns c =
    let a = c.args in
    let k : ℕ = a.at + length a.first.now in
    c.raise_part.ensures
    ∙ ap (raised_part k (k + length a.second.now) a.n) c.put_both.ensures
    ∙ put-raised a.at a.first.now a.second.now a.space.now c.requires a.n
