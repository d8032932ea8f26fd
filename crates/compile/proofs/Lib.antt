-- The walk as it is carried out has the counts, the refusal and the file of the walk as it is defined.
pub mod WalkAsDefined
-- What stands in the words of a sound library is what its view shows.
pub mod ImageView
