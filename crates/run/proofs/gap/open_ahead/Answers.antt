-- A card begins at its place, so the gap moved there is directly ahead of it.
use Rattle.run.proofs.Opening.{opens-ahead}
use borrow.Author.Rules.{rules}
use Rattle.run.proofs.gap.open_ahead.Goals as goal

pub returns : goal.returns
returns c =
    let a = c.args in
    let m = c.move_to in record {
      ordered = search rules;
      opens_ahead = opens-ahead a.w.now a.g c.requires.0 a.at m.new.w m.result
          m.ensures.moves;
    }
