use Rattle.merge.proofs.MergedLayout.{directory-part}
use Rattle.merge.proofs.parts.Parted.directory.Goals as goal

pub returns : goal.returns
returns c = let p = c.args.self.now in directory-part p.image.now p.parts p.laid
