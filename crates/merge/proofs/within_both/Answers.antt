-- The counts of both decide.
use Prim.Native.Nat.{◌+◌}
use mathlib.Core.Path.{ap₂}
use Rattle.merge.proofs.MergeAnswer.{within}
use Rattle.merge.proofs.within_both.Goals as goal

pub returns : goal.returns
returns c =
    let a = c.args.a.now in
    let b = c.args.b.now in
    let one = c.count_cards in
    let two = c.count_cards-2 in
    λ l m p q. within a.image.now b.image.now a.parts b.parts a.laid b.laid l m p q (one.result + two.result) (ap₂ ◌+◌ one.ensures.0 two.ensures.0) _ c.within_limits.ensures
