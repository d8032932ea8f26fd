-- The entries passed are planted, each after those ahead of it. Assumes nothing.
use mathlib.Core.Path.{◌≡◌}
use Rattle.library_index.specs.Names.{grown_to}
use Rattle.library_index.proofs.names.plant.Given as goal

abbrev pub invariant-loop-n : goal.invariant-loop-n
invariant-loop-n l = l.ways ≡ grown_to l.n l.directory l.initial.ways
