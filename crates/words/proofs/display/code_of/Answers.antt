-- `display::code_of` is right because each sign has the chart's code, and what is no sign was tried byte by byte. Assumes nothing.
use Prim.Native.Nat.{ℕ, ◌≤◌, ◌<◌}
use mathlib.Core.Path.{◌≡◌, sym}
use mathlib.Core.List.{List}
use lib.Dec.{eqb, eqb→eq}
use Rattle.words.specs.Base.{bytes}
use Rattle.words.specs.Display.{code_of}
use Rattle.words.proofs.EveryPlace.{Apart, left_over}
use Rattle.words.proofs.ChartBothWays.{code-under}
use Rattle.words.proofs.display.code_of.Goals as goal

-- the bytes that have an arm of their own, in the order of the match
abbrev signs : List ℕ
signs = bytes ":+-*/()$= ,.#[]%\"_!&'?<>@\\^;"

beyond : (b : ℕ) → Apart Unit b signs → 91 ≤ b → b < 256 → 64 ≡ code_of b
unfolding code_of
beyond b a l h = sym (eqb→eq (code_of b) 64 (left_over (λ k. eqb (code_of k) 64) signs 91 165 b tt a l h))

pub returns-in_default : goal.returns-in_default
returns-in_default c = sym (code-under c.args.b c.in_default.if-b-lt32-own.true)

pub returns-in_default-2 : goal.returns-in_default-2
returns-in_default-2 c = beyond c.args.b c.in_default.in_default-own.rest c.in_default.if-b-lt91-own.false c.ranges.b.fits
