-- The card that was sought already is answered where it is named again; any other is sought.
use Rattle.run.proofs.RangeAsking.{same-card}
use Rattle.run.proofs.ranges.seek_last.Goals as goal

pub returns-then-a-b-2 : goal.returns-then-a-b-2
returns-then-a-b-2 c =
    let a = c.args in
    let pre = c.requires in record { bounds = pre.sane.1.1; seeks_card_2 = same-card a.w.now a.dir.now a.d a.a a.b a.f c.if-a-b-2.true c.if-a-b.true pre.seeks_card }
