-- `display::letter_in` is right because there are blanks outside the chart. Assumes nothing.
use mathlib.Core.Path.{sym}
use Rattle.words.proofs.ChartBothWays.{letter-outside}
use Rattle.words.proofs.display.letter_in.Goals as goal

pub returns-then-c-ge-CODES : goal.returns-then-c-ge-CODES
returns-then-c-ge-CODES c = sym (letter-outside c.args.c c.if-c-ge-CODES.true)
