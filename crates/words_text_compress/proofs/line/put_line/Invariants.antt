-- `line::put_line` is right because what is written, then what the rest of the line gives after the blanks that wait, is always the whole. Assumes nothing.
use Prim.Native.Nat.{◌+◌}
use Rattle.words_text_compress.proofs.SqueezedLine.{Squeezed}
use Rattle.words_text_compress.proofs.line.put_line.Given as goal

abbrev pub invariant-loop-b : goal.invariant-loop-b
invariant-loop-b l = Squeezed l.line l.codes l.at (l.initial.at + l.b-index) l.n
