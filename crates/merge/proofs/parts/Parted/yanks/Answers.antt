use Rattle.merge.proofs.MergedLayout.{yanks-part}
use Rattle.merge.proofs.parts.Parted.yanks.Goals as goal

pub returns : goal.returns
returns c = let p = c.args.self.now in yanks-part p.image.now p.parts p.laid
