-- No name in both directories: a name of the one is none of the other's.
pub mod NamesApart
-- What is sound under a directory is sound, raised, where that directory follows another.
pub mod RaisedStaysSound
-- The stream of a merged library: the cards of YANK$$$ of both and then the decks of both.
pub mod MergedStream
-- M1: the merge of two sound libraries without a common name is sound.
pub mod MergedSound
-- The limits of a merged library are those of the summed counts: raising a number changes no length.
pub mod MergedLimits
-- What an accepted merge of two images is, and M4: the fresh library on either side gives the other back.
pub mod AcceptedMerge
-- In a merged library the first's numbers are yanked as in the first, the second's raised as in the second.
pub mod MergedFlags
-- M2: a merged image has the words of the first as they were, and those of the second with numbers raised.
pub mod MergedImage
