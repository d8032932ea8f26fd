-- Up to each place every word is right, so the first wrong one of the whole is that of the rest. Assumes nothing.
use mathlib.Core.Path.{◌≡◌}
use mathlib.Core.List.{[]}
use Rattle.library.specs.Check.{first_bad, ok_deck_word}
use Rattle.library_tables.proofs.TableWords.{bad_from}
use Rattle.library_tables.proofs.tables.deck_words_fault.Given as goal

abbrev pub invariant-loop-i : goal.invariant-loop-i
invariant-loop-i l = first_bad (ok_deck_word l.directory) [] l.first l.decks ≡ bad_from (ok_deck_word l.directory) l.first l.decks l.i
