-- The word of this name is a number that antt computes. Assumes nothing.
use Rattle.words.specs.Display.{code_of}
use Rattle.words.specs.Names.{is_name, name_word}
use Rattle.words.specs.Spelt.{word_of_name}
use Rattle.library.proofs.fixed.reserved_word.Goals as goal

pub returns : goal.returns
unfolding word_of_name is_name name_word code_of
returns c = c.word_of_name.ensures
