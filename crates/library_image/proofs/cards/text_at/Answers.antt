use Rattle.library_image.proofs.CardPlaces.{text-beyond, text-here, text-on}
use lib.ListN.{length}
use native.Mathlib.Omega.{arith}
use mathlib.Core.Path.{sym, ◌∙◌}
use Prim.Native.Nat.{◌≤◌}
use borrow.Author.Rules.{rules}
use Rattle.library_image.proofs.cards.text_at.Goals as goal

pub returns-then-image-i-ge-LAST-clause-value : goal.returns-then-image-i-ge-LAST-clause-value
returns-then-image-i-ge-LAST-clause-value c = let l = c.loop-i in sym (l.invariant ∙ text-here c.args.image.now l.i (search rules) c.if-image-i-ge-LAST.true)

pub loop-i-preserved : goal.loop-i-preserved
loop-i-preserved c = let l = c.loop-i in l.invariant ∙ text-on c.args.image.now l.i (search rules) c.if-image-i-ge-LAST.false

pub returns-clause-value : goal.returns-clause-value
returns-clause-value c = let l = c.loop-i in let far : length c.args.image.now ≤ l.i = omega arith in sym (l.invariant ∙ text-beyond c.args.image.now l.i far)
