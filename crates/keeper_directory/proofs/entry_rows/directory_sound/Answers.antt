-- The rows fit where there are eleven bytes for each entry. Assumes nothing.
use native.Mathlib.Omega.{arith}
use mathlib.Core.Path.{ap, ◌∙◌}
use lib.ListN.{length}
use Rattle.library_tables.proofs.TableWords.{entries-are}
use Rattle.keeper_card.proofs.AcceptedNames.{directory-long}
use Rattle.keeper_directory.proofs.LibraryRows.{listed-short, listed-all}
use Rattle.keeper_directory.proofs.entry_rows.directory_sound.Goals as goal

pub returns-then-rows-n : goal.returns-then-rows-n
returns-then-rows-n c = let a = c.args in λ l e. listed-short a.image.now l e _ c.entries_of-n.ensures.0 a.rows.now c.if-rows-n.true

pub put_directory-requires : goal.put_directory-requires
put_directory-requires c =
    let ws = c.args.image.now in
    let tab = c.requires.tabled in
    let is = entries-are ws _ c.entries_of-n.ensures.0 in
    let long = ap length is ∙ directory-long ws tab in record { tabled = tab; directory_value = (is, long); directory_in_bounds = omega (arith, long, c.entries_of-n.ensures.0, c.if-rows-n.false) }

pub returns : goal.returns
returns c = let a = c.args in λ l e. listed-all a.image.now l e _ c.entries_of-n.ensures.0 a.rows.now _ c.if-rows-n.false (c.put_directory.ensures l e)
