-- A library written out where it has room: the header, the tables and the cards one after another.
pub mod StoredLibrary
