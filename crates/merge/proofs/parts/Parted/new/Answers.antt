-- The places of an image that was accepted are laid one after another.
use mathlib.Core.Path.{sym, subst}
use Rattle.merge.specs.Words.{Laid}
use Rattle.merge.proofs.MergedWords.{parted}
use Rattle.merge.proofs.parts.Parted.new.Goals as goal

pub invariant_of-result : goal.invariant_of-result
invariant_of-result c = let k = c.requires in record { laid = subst (Laid c.args.image.now) (sym c.parts_of.ensures) (parted c.args.image.now k.lib k.accepted) }
