use Rattle.merge.proofs.MergedLayout.{list-part}
use Rattle.merge.proofs.parts.Parted.list.Goals as goal

pub returns : goal.returns
returns c = let p = c.args.self.now in list-part p.image.now p.parts p.laid
