use Rattle.merge.proofs.MergedLayout.{decks-part}
use Rattle.merge.proofs.parts.Parted.decks.Goals as goal

pub returns : goal.returns
returns c = let p = c.args.self.now in decks-part p.image.now p.parts p.laid
