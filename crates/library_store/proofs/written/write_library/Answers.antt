-- The library is written exactly where there is room.
use mathlib.Core.Path.{sym, ◌∙◌}
use lib.ListN.{length}
use Rattle.library_store.proofs.StoredLibrary.{room-said, into-is, into-kept}
use Rattle.library_store.proofs.written.write_library.Goals as goal

pub put_library-requires : goal.put_library-requires
put_library-requires c =
    let a = c.args in
    room-said a.directory.now a.decks.now a.low.now a.high.now (length a.space.now) (sym c.has_room-fits.ensures ∙ c.if-fits.true)

pub returns-then-fits-clause-space_after : goal.returns-then-fits-clause-space_after
returns-then-fits-clause-space_after c =
    let a = c.args in
    c.put_library.ensures ∙ sym (into-is a.directory.now a.decks.now a.low.now a.high.now a.space.now (sym c.has_room-fits.ensures ∙ c.if-fits.true))

pub returns-else-fits-clause-space_after : goal.returns-else-fits-clause-space_after
returns-else-fits-clause-space_after c =
    let a = c.args in
    into-kept a.directory.now a.decks.now a.low.now a.high.now a.space.now (sym c.has_room-fits.ensures ∙ c.if-fits.false)
