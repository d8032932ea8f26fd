-- The line is that of the card, or is not written.
use Rattle.library_image.proofs.CardPlaces.{line_taken}
use Rattle.compile_walk.proofs.LineRoom.{put-unseen, put-seen}
use Rattle.compile_walk.proofs.walk.Pass.put_text.Goals as goal

pub returns-then-not-self : goal.returns-then-not-self
returns-then-not-self c = let a = c.args in put-unseen a.self.now.writes a.self.now.image.now a.c _ a.so_far.lines a.so_far.calls a.out.now _ c.put.ensures c.if-not-self.true

pub returns : goal.returns
returns c =
    let a = c.args in
    let p = c.line_of-n in
    let said = line_taken a.self.now.image.now _ p.new.line a.c.text a.c.next p.result p.ensures.value p.ensures.line_after in
    put-seen a.self.now.writes a.self.now.image.now a.c _ a.so_far.lines a.so_far.calls a.out.now _ c.put-2.ensures said
