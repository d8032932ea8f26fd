-- `display::letter_of` is right because each sign's code gives the sign, and the other numbers were tried one by one. Assumes nothing.
use Prim.Native.Nat.{ℕ, ◌≤◌, ◌<◌}
use native.Mathlib.Omega.{arith}
use mathlib.Core.Path.{◌≡◌, sym}
use mathlib.Core.List.{List, ◌∷◌}
use lib.Dec.{T, eqb, eqb→eq}
use Rattle.words.specs.Display.{letter, blank}
use Rattle.words.proofs.EveryPlace.{Apart, from, left_over}
use Rattle.words.proofs.ChartBothWays.{counts, counts-is}
use Rattle.words.proofs.display.letter_of.Goals as goal

-- the codes that have an arm of their own, in the order of the match
abbrev signs : List ℕ
signs = 0o00 ∷ from 0o45 27

letters : (c : ℕ) → Apart Unit c signs → c < 0o33 → T (counts letter 0o01 65 c)
unfolding letter
letters c a = left_over (counts letter 0o01 65) signs 0 0o33 c tt a (omega arith)

digits : (c : ℕ) → Apart Unit c signs → 0o33 ≤ c → c < 0o45 → T (counts letter 0o33 48 c)
unfolding letter
digits c a = left_over (counts letter 0o33 48) signs 0o33 10 c tt a

beyond : (c : ℕ) → Apart Unit c signs → 0o45 ≤ c → c < 256 → blank ≡ letter c
unfolding letter
beyond c a l h = sym (eqb→eq (letter c) blank (left_over (λ k. eqb (letter k) blank) signs 0o45 219 c tt a l h))

pub returns-in-1-to-26 : goal.returns-in-1-to-26
returns-in-1-to-26 c =
    let k = c.args.c in
    counts-is letter 0o01 65 k (letters k c.in-1-to-26.in_default-own.rest c.in-1-to-26.if-c-lt27-own.true)

pub returns-in-27-to-36 : goal.returns-in-27-to-36
returns-in-27-to-36 c =
    let k = c.args.c in
    counts-is letter 0o33 48 k (digits k c.in-27-to-36.in_default-own.rest c.in-27-to-36.if-c-lt27-own.false c.in-27-to-36.if-c-lt37-own.true)

pub returns-in_default : goal.returns-in_default
returns-in_default c = beyond c.args.c c.in_default.in_default-own.rest c.in_default.if-c-lt37-own.false c.ranges.c.fits
