-- `columns::is_of_set` is right because the set is the bytes from a blank to an underline. Assumes nothing.
use mathlib.Core.Path.{refl, sym, ◌∙◌}
use mathlib.Core.Bool.{Bool, true, false}
use mathlib.Core.Path.{◌≡◌}
use borrow.Author.Tests.{lt-leb, leb-true, leb-false}
use lib.Dec.{leb}
use Rattle.words.specs.Display.{in_chart}
use Rattle.words.proofs.ChartBothWays.{set-under, set-above, set-inside}
use Rattle.words.proofs.columns.is_of_set.Goals as goal

pub returns-then-b-ge-BLANK : goal.returns-then-b-ge-BLANK
returns-then-b-ge-BLANK c = by (leb c.args.b 95) refl
  where
    by : (t : Bool) → leb c.args.b 95 ≡ t → leb c.args.b 95 ≡ in_chart c.args.b
    by true e = e ∙ sym (set-inside c.args.b c.if-b-ge-BLANK.true (leb-true c.args.b 95 e))
    by false e = e ∙ sym (set-above c.args.b (leb-false c.args.b 95 e))

pub returns-else-b-ge-BLANK : goal.returns-else-b-ge-BLANK
returns-else-b-ge-BLANK c = lt-leb 32 c.args.b c.if-b-ge-BLANK.false ∙ sym (set-under c.args.b c.if-b-ge-BLANK.false)
