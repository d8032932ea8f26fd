-- What a directive asks, by what its field holds.
pub mod DirectiveAsks
-- Cards by the words and numbers that are read of them: a number is 0 where there is no card.
pub mod CardsByWord
-- The names that are left of a field, one after another: what an iterator over them cites.
pub mod NamesLeft
