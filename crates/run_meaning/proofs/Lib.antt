-- What holds of a state goes through refusals, a step, and the lines of a stream.
pub mod HoldsThrough
-- Each line of a unit makes the library grow: no card is dropped, moved or altered.
pub mod LineGrows
-- A line that starts no deck unit adds no deck.
pub mod SameDecks
-- A set that only yanks leaves the library as it was, with its name and its cards at the end of YANK$$$.
pub mod YankingSet
-- The library of an accepted run is a growth of the old one by the names of its units.
pub mod UpdateGrowth
-- A card that is found stands in a part of the library.
pub mod FoundInPart
-- The lines of the cards that a run makes are sound, and of the right kind for their place.
pub mod MadeCards
-- What changes in a range, in a deck and at the end of the decks do to the parts of a library.
pub mod ChangedParts
-- A card that a unit puts in keeps the library sound: its sequence number is one that no card of it has.
pub mod NewCards
-- A byte of the unit at the end of histories keeps the library sound: its number is the highest.
pub mod MarkSound
-- A unit's first line keeps the library sound: its name is new, so no card has its number.
pub mod UnitSound
-- Each line keeps a library sound, so an accepted run makes a sound library of a sound one.
pub mod StepSound
-- A unit line does the same to a state as to a run's start, so lines cut ahead of it are run in parts.
pub mod StepsCut
-- Each line adds the cards that are counted for it, and a mark leaves as many cards as there were.
pub mod CardsAdded
-- Ahead of any unit a line is skipped or refused, so lines without units leave the library as it was.
pub mod NoUnits
-- Of a run that wrote a library the check accepted the image, and the stream was not refused.
pub mod AcceptedRun
-- R4 and R5: an accepted run keeps the library sound, adds the cards of its lines and drops none.
pub mod Kept
-- A card is found in its part exactly where the stream has it, and spots stand in the order of the stream.
pub mod FlatFind
-- Deck cards of the stream are told by owner and number, and a range is barred exactly where it has one.
pub mod FlatDecks
-- What each change of a library does to its stream: a card put in, one at the end, a range changed.
pub mod FlatStream
-- What is yanked changes only with the cards of YANK$$$, and the unit's own number is never yanked.
pub mod FlatFlags
-- Counts of changed streams: cards and short histories after a card is put in or a range is changed.
pub mod FlatLimits
