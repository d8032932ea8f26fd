-- Right because the high eight and the low eight of the 15 bytes agree on the one that they share (`put-pair`).
use Rattle.words_packing.proofs.PackedPair.{put-pair}
use Rattle.words_packing.proofs.packer.put_pair.Goals as goal

pub returns : goal.returns
returns c =
    let a = c.args in
    let p = c.requires in
    put-pair a.out.now _ _ a.a a.b p.0 p.1.0 p.1.1 c.put_high.ensures c.put_high-2.ensures
