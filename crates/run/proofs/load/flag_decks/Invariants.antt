-- What is flagged and the numbers of the names still to do are together the numbers of the list.
use mathlib.Core.Path.{◌≡◌}
use lib.ListN.{length}
use Rattle.library.specs.Library.{entry_of}
use Rattle.run.proofs.Flagging.{StillFlags}
use Rattle.run.proofs.load.flag_decks.Given as goal

abbrev pub invariant-loop-name : goal.invariant-loop-name
invariant-loop-name l = (length l.flags ≡ length l.initial.flags) × StillFlags (entry_of l.directory) l.name-items l.name-index l.flags
