-- The words that are written of two accepted images are the image of the merged library.
pub mod MergedWords
-- Cards counted one after another.
pub mod CardCount
-- Words put into a space one after another, and a stretch of them raised where it stands.
pub mod PutStretches
-- The tables and cards of a merged image, laid down stretch by stretch, are those that its definition has.
pub mod MergedLayout
-- What is answered of two libraries that were read: 37, 31 by the counts of both, 32, or the merged words.
pub mod MergeAnswer
