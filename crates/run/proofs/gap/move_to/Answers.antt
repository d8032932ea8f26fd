-- The place is below the gap, above it or in it; the words between it and the gap change sides.
use Rattle.run.proofs.Moving.{move_down, move-none, move-far, move_up}
use borrow.Author.Rules.{rules}
use Rattle.run.proofs.gap.move_to.Goals as goal

pub returns-then-p-lo : goal.returns-then-p-lo
returns-then-p-lo c =
    let a = c.args in record {
      ordered = search rules;
      moves = move_down a.w.now a.g c.requires.0 a.p
          c.if-p-lo.true c.raise.new.w c.raise.ensures;
    }

pub returns-then-p-hi : goal.returns-then-p-hi
returns-then-p-hi c =
    let a = c.args in record { ordered = search rules; moves = move-none a.w.now a.g c.requires.0 a.p c.if-p-lo.false c.if-p-hi.true }

pub returns-then-w-p : goal.returns-then-w-p
returns-then-w-p c =
    let a = c.args in record { ordered = search rules; moves = move-far a.w.now a.g c.requires.0 a.p c.if-p-lo.false c.if-w-p.true }

pub returns : goal.returns
returns c =
    let a = c.args in record {
      ordered = search rules;
      moves = move_up a.w.now a.g c.requires.0 a.p
          c.if-p-lo.false c.if-p-hi.false
          c.lower.new.w c.lower.ensures;
    }
