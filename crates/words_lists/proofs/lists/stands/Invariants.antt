-- Up to each place no word is w, so w stands in the whole just where it stands in the rest. Assumes nothing.
use mathlib.Core.Path.{◌≡◌}
use lib.ListN.{drop}
use Rattle.words.specs.Base.{member}
use Rattle.words_lists.proofs.lists.stands.Given as goal

abbrev pub invariant-loop-v : goal.invariant-loop-v
invariant-loop-v l = member l.w l.list ≡ member l.w (drop l.v-index l.list)
