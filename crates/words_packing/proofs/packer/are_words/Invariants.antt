-- Right because the test of the words from i on is the test of all: those before have passed.
use mathlib.Core.Path.{◌≡◌}
use lib.ListN.{drop}
use Rattle.words.specs.Base.{all, is_word}
use Rattle.words_packing.proofs.packer.are_words.Given as goal

abbrev pub invariant-loop-i : goal.invariant-loop-i
invariant-loop-i g l = let ws = g.E.Stands.words l.words in all is_word (drop l.i ws) ≡ all is_word ws
