-- The fresh library's three words are put into a space, or it has no room for them.
pub mod FreshWords
-- Each case of the fresh library computes to true.
pub mod FreshCases
