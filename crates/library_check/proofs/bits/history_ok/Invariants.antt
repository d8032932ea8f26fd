-- The words passed are right, so all are if those left are. Assumes nothing.
use mathlib.Core.Path.{◌≡◌}
use lib.ListN.{drop}
use Rattle.words.specs.Base.{all}
use Rattle.library.specs.Check.{threes}
use Rattle.library_yanks.specs.Bytes.{flagged}
use Rattle.library_check.specs.Rows.{ok_bit}
use Rattle.library_check.proofs.bits.history_ok.Given as goal

abbrev pub invariant-loop-word : goal.invariant-loop-word
invariant-loop-word l = all (ok_bit (flagged l.flags)) (threes (drop l.word-index l.further)) ≡ all (ok_bit (flagged l.flags)) (threes l.further)
