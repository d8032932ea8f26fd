-- The stretch is lent, raised, and comes back between what was before and after it.
use mathlib.Core.List.{◌++◌}
use lib.ListN.{take}
use borrow.Rule.Slice.PartMut.{Post-is}
use Rattle.merge.proofs.put.raise_part.Goals as goal

pub returns : goal.returns
returns c =
    let a = c.args in
    let h = c.requires.0 in
    λ j. take a.from a.space.now ++ (c.raise_numbers.ensures j ++ Post-is a.from a.to a.space.now h j)
