-- The kinds are those of the decks, the flags those of the yanked sets. Assumes nothing.
use Prim.Native.Nat.{ℕ}
use lib.ListN.{replicate, length-replicate, get_or-replicate}
use Rattle.keeper_directory.proofs.LibraryRows.{kinds-are, flags-are, rows_are}
use Rattle.keeper_directory.proofs.entry_rows.put_directory.Goals as goal

pub returns : goal.returns
returns c =
    let a = c.args in
    let is = c.requires.directory_value.0 in
    let place = c.cards_place-from.ensures in
    let ws = c.args.image.now in
    λ l e. rows_are ws l e _ _
    (kinds-are ws l e (replicate 1024 83) (length-replicate {A = ℕ} 1024 83) (λ m h. get_or-replicate {A = ℕ} 1024 m 83 0 h) _ _ place c.put_kinds.ensures)
    (flags-are ws l e a.directory.now _ _ is place c.put_flags.ensures) a.directory.now _ _ is c.put_rows.ensures
