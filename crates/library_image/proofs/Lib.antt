-- Cards as they stand in an image, each place from the one before it.
pub mod CardPlaces
-- A line whose first word has another code first does not begin with a star.
pub mod StarlessLine
-- What is seen at a place where the words of a sound card stand is that card.
pub mod SeenCard
