-- A card ends where its heads and its text do, so the gap moved there is directly after it.
use Rattle.run.proofs.Opening.{opens-none, opens-after}
use borrow.Author.Rules.{rules}
use Rattle.run.proofs.gap.open_after.Goals as goal

pub returns-then-w-at : goal.returns-then-w-at
returns-then-w-at c =
    let a = c.args in record { ordered = search rules; opens_after = opens-none a.w.now a.g c.requires.0 a.at c.if-w-at.true _ _ }

pub returns : goal.returns
returns c =
    let a = c.args in
    let m = c.move_to in
    let s = c.see-c in record {
      ordered = search rules;
      opens_after = opens-after a.w.now a.g c.requires.0 a.at
          s.result s.ensures.sees_any m.new.w m.result m.ensures.moves;
    }
