-- What a byte says of activity is read off its bits.
pub mod Fixing
-- The further words of a history: what is left to do from each word on gives what was to do from the first.
pub mod Histories
-- A card has its bits once its first word is written, and what is left to do gives what was to do.
pub mod Cards
