-- What is left behind the tables and the lower cards is enough for the upper ones exactly where all words fit.
use native.Mathlib.Omega.{arith}
use Rattle.library_store.proofs.StoredLibrary.{many-entries, many-decks, no_room_lem, room-left}
use Rattle.library_store.proofs.written.has_room.Goals as goal

pub returns-then-directory-ge-FIELD : goal.returns-then-directory-ge-FIELD
returns-then-directory-ge-FIELD c =
    let a = c.args in
    many-entries a.directory.now a.decks.now a.low.now a.high.now a.room c.if-directory-ge-FIELD.true

pub returns-then-decks-ge-FIELD : goal.returns-then-decks-ge-FIELD
returns-then-decks-ge-FIELD c =
    let a = c.args in
    many-decks a.directory.now a.decks.now a.low.now a.high.now a.room c.if-directory-ge-FIELD.false c.if-decks-ge-FIELD.true

pub returns-then-room-tables : goal.returns-then-room-tables
returns-then-room-tables c =
    let a = c.args in
    no_room_lem a.directory.now a.decks.now a.low.now a.high.now a.room c.if-directory-ge-FIELD.false c.if-decks-ge-FIELD.false (omega arith)

pub returns-then-room-tables-2 : goal.returns-then-room-tables-2
returns-then-room-tables-2 c =
    let a = c.args in
    no_room_lem a.directory.now a.decks.now a.low.now a.high.now a.room c.if-directory-ge-FIELD.false c.if-decks-ge-FIELD.false (omega arith)

pub returns : goal.returns
returns c =
    let a = c.args in
    room-left a.directory.now a.decks.now a.low.now a.high.now a.room c.if-directory-ge-FIELD.false c.if-decks-ge-FIELD.false (omega arith)
