-- Keys one after another, each with those ahead of it: the first that stands twice is none of the first n.
pub mod KeysAhead
-- More ways keep where those that there are lead, in a tree of keys as in one of names.
pub mod WaysKept
-- A key's ways lead through the tree to where it stands, and where they end it stands nowhere.
pub mod KeyWays
-- Keys of which each comes to a slot that no key ahead has marked are all different.
pub mod KeySlots
