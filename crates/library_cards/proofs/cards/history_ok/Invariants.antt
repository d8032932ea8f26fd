-- Up to each place every word passes, so the words of the whole pass just where those of the rest do. Assumes nothing.
use Prim.Native.Nat.{◌<◌}
use mathlib.Core.Path.{◌≡◌}
use mathlib.Core.List.{[], ◌∷◌, ◌++◌}
use lib.ListN.{drop}
use Rattle.library.specs.WordForm.{ok_further}
use Rattle.library_cards.proofs.cards.history_ok.Given as goal

abbrev pub invariant-loop-w : goal.invariant-loop-w
invariant-loop-w l = record { some_least : 0 < l.least; same : ok_further l.directory l.owner l.words ≡ ok_further l.directory l.least (drop l.w-index l.full ++ (l.last ∷ [])) }
