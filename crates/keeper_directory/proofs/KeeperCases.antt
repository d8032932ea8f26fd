-- Each case of what the keeper is shown computes to true.
use Rattle.words.specs.Display.{code_of, letter}
use Rattle.words.specs.Names.{is_name, name_word, name_of, is_name_word, is_number, number_read, numeral, left_justified}
use Rattle.words.specs.Spelt.{word_of_name}
use Rattle.words.specs.Text.{blanks, words_of, text_words, says, is_text}
use Rattle.words_lines.specs.Directive.{kind_of, name_of_line, kind_of_line, field, is_clean, is_card, card_named, asked, directive, yank_names}
use Rattle.library.specs.Check.{check}
use Rattle.library.specs.Image.{card_words, encode}
use Rattle.library.specs.Library.{stream, entry_of, deck_names, deck_line}
use Rattle.library.specs.Yanks.{active, targets, yanks_of, settled_yanks, yanked}
use Rattle.keeper_card.specs.Naming.{entry_name, naming}
use Rattle.keeper_directory.specs.Keeper.{entry_kind as kind_of_entry, entry_row, listing}
use Rattle.keeper_directory.specs.Examples.{KeeperCases}

pub keeper-cases : KeeperCases
unfolding code_of letter is_name name_word name_of is_name_word word_of_name is_number number_read numeral left_justified blanks words_of text_words says is_text kind_of name_of_line kind_of_line field is_clean is_card card_named asked directive yank_names check card_words encode stream entry_of deck_names deck_line active targets yanks_of settled_yanks yanked entry_name kind_of_entry entry_row listing naming KeeperCases
keeper-cases = tt
