-- Up to each place every entry is right, so the first wrong one of the whole is that of the rest. Assumes nothing.
use mathlib.Core.Path.{◌≡◌}
use mathlib.Core.List.{[]}
use Rattle.library.specs.Check.{first_bad, ok_entry}
use Rattle.library_tables.proofs.TableWords.{bad_from}
use Rattle.library_tables.proofs.tables.entries_fault.Given as goal

abbrev pub invariant-loop-i : goal.invariant-loop-i
invariant-loop-i l = first_bad ok_entry [] 2 l.directory ≡ bad_from ok_entry 2 l.directory l.i
