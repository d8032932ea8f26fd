-- As many cards are passed as are ahead of the one. Assumes nothing.
use mathlib.Core.List.{List}
use Prim.Native.Nat.{ℕ}
use Rattle.library_check.proofs.Keying.{Placing}
use Rattle.library_check.proofs.twice.place_of.Given as goal

abbrev pub invariant-loop : goal.invariant-loop
invariant-loop l = (d : List ℕ) → Placing d l.image l.from l.k l.counter l.at
