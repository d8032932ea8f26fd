-- Each case of raised words computes to true.
use Rattle.words.specs.Display.{code_of}
use Rattle.words.specs.Text.{blanks, words_of, text_words}
use Rattle.library.specs.Yanks.{active}
use Rattle.library.specs.Image.{card_words}
use Rattle.library.specs.CardWords.{further_len, card_len, cards_by}
use Rattle.library_raise.specs.Raised.{byte_raised, word_raised, further_raised, card_raised}
use Rattle.library_raise.specs.Examples.{RaisedCases}

pub raised-cases : RaisedCases
unfolding RaisedCases code_of blanks words_of text_words active card_words further_len card_len byte_raised word_raised further_raised card_raised cards_by
raised-cases = tt
