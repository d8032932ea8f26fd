-- What the words left say after those passed is what all of them say.
use mathlib.Core.Path.{◌≡◌}
use lib.ListN.{drop}
use Rattle.library.specs.Check.{threes}
use Rattle.library_yanks.specs.Bytes.{flagged, say_all}
use Rattle.library_yanks.proofs.force.say_history.Given as goal

abbrev pub invariant-loop-word : goal.invariant-loop-word
invariant-loop-word l = say_all (flagged l.flags) l.so (threes (drop l.word-index l.further)) ≡ say_all (flagged l.flags) l.initial.so (threes l.further)
