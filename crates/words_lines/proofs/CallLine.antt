-- What a line without a star in column 1 says of a CALL. Assumes nothing.
use mathlib.Core.Path.{◌≡◌}
use mathlib.Core.Bool.{false}
use mathlib.Core.List.{List}
use Prim.Native.Nat.{ℕ}
use Rattle.words.specs.Display.{star}
use Rattle.words_lines.specs.Directive.{starts, call_of}
use Rattle.words_lines.specs.declared.Call.TheVariants.{Not}

pub call-starless : (l : List ℕ) → starts star l ≡ false → Not ≡ call_of l
unfolding call_of
call-starless l none = rw none
