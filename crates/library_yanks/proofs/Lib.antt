-- Unused bytes say nothing of a card's activity.
pub mod Weighing
-- A name's flag is one of the flags, and is added to them.
pub mod Adding
-- The owners passed from the highest down write down the one solution of the yank rule.
pub mod Settling
-- The flags of the names of a YANK line, one name after another.
pub mod Marking
-- Cards linked by their owners, the last first, and followed along the links.
pub mod Chaining
-- Flags settled from an image are those of the cards of YANK$$$ that were read there.
pub mod Passing
-- A card whose words stand at a place is active under any flags where its history says so.
pub mod Saying
-- The flags settled from the words of a sound library's YANK$$$ are 1 where the number is yanked, 0 else.
pub mod Yanking
