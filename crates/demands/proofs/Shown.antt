-- Each case of the shown example computes to true.
use Rattle.words.specs.Display.{code_of, letter}
use Rattle.words.specs.Names.{is_name, name_word, name_of, is_name_word, is_number, number_read, numeral, left_justified, right_justified}
use Rattle.words.specs.Spelt.{word_of_name, name_length, name_into, number_into}
use Rattle.words_packing.specs.Pack.{packing, unpacking, space_after, packing_eights, unpacking_eights}
use Rattle.words.specs.Text.{blanks, words_of, text_words, says, is_text}
use Rattle.words_lines.specs.Directive.{lines, kind_of, name_of_line, kind_of_line, field, is_clean, is_card, card_named, asked, directive, yank_names, call_of}
use Rattle.words_lines.specs.FirstLine.{line_of, after_line}
use Rattle.library.specs.Check.{check}
use Rattle.library.specs.Image.{card_words, encode, within_limits}
use Rattle.library.specs.Library.{stream, entry_of, deck_names, deck_line}
use Rattle.library.specs.Yanks.{active, targets, yanks_of, settled_yanks, yanked}
use Rattle.run_meaning.specs.Run.{update, running}
use Rattle.run_meaning.specs.Step.{find, step}
use Rattle.compile.specs.Compile.{compiling, program}
use Rattle.compile_walk.specs.View.{view}
use Rattle.compile_walk.specs.Walk.{printed, called_deck}
use Rattle.demands.specs.Shown.{AllHold}

pub all_hold : AllHold
unfolding code_of letter is_name name_word name_of is_name_word word_of_name name_length name_into is_number number_read numeral left_justified right_justified number_into packing unpacking space_after packing_eights unpacking_eights blanks words_of text_words says is_text line_of after_line lines kind_of name_of_line kind_of_line field is_clean is_card card_named asked directive yank_names call_of check card_words encode within_limits stream entry_of deck_names deck_line active targets yanks_of settled_yanks yanked update running find step compiling program view printed called_deck AllHold
all_hold = tt
