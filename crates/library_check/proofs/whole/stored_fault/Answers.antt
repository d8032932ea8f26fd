-- The flags are those that the cards settle, and the row is under them. Assumes nothing.
use mathlib.Core.Path.{ap, ◌∙◌}
use mathlib.Core.List.{List}
use Prim.Native.Nat.{ℕ}
use Rattle.library.specs.Check.{first_failing, ok_bits}
use Rattle.library_yanks.specs.Bytes.{flagged}
use Rattle.library_tables.specs.Found.{found}
use Rattle.library_check.proofs.whole.stored_fault.Goals as goal

pub returns : goal.returns
returns c =
    λ d ss h. c.bits_fault.ensures d ss h ∙ ap (λ (fs : List ℕ). found (first_failing (ok_bits (flagged fs)) ss)) c.settle.ensures
