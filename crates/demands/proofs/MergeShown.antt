-- The shown merges hold, M5 is met, and each case without a hypothesis is so, by computation.
use Rattle.words.specs.Display.{code_of, letter}
use Rattle.words.specs.Names.{is_name, name_word, name_of, is_name_word, is_number, numeral, left_justified, right_justified}
use Rattle.words.specs.Text.{blanks, words_of, text_words, says, is_text}
use Rattle.words_lines.specs.Directive.{lines, kind_of, name_of_line, kind_of_line, field, is_clean, is_card, card_named, asked, directive, yank_names, call_of}
use Rattle.words_lines.specs.FirstLine.{line_of, after_line}
use Rattle.library.specs.Library.{stream, entry_of, deck_names, deck_line}
use Rattle.library.specs.Yanks.{active, targets, yanks_of, settled_yanks, yanked}
use Rattle.library.specs.Image.{card_words, encode, within_limits}
use Rattle.library.specs.Check.{check}
use Rattle.run_meaning.specs.Step.{find, step}
use Rattle.run_meaning.specs.Run.{update, running}
use Rattle.compile_walk.specs.View.{view}
use Rattle.compile_walk.specs.Walk.{printed, called_deck}
use Rattle.compile.specs.Compile.{compiling}
use Rattle.library.specs.Counts.{within_counts}
use Rattle.library.specs.CardWords.{further_len, card_len, cards_by}
use Rattle.library_raise.specs.Raised.{byte_raised, word_raised, further_raised, card_raised}
use Rattle.merge_meaning.specs.Merge.{merging}
use Rattle.demands.specs.MergeShown.{MergesHold, MergeSpare, NumbersSpare, FileSpare, YankMet, YankSpare}

pub merges-hold : MergesHold
unfolding code_of letter is_name name_word name_of is_name_word is_number numeral left_justified right_justified blanks words_of text_words says is_text line_of after_line lines kind_of name_of_line kind_of_line field is_clean is_card card_named asked directive yank_names call_of check card_words encode within_limits stream entry_of deck_names deck_line active targets yanks_of settled_yanks yanked update running find step compiling view printed called_deck merging MergesHold
merges-hold = tt

pub merge-spare : MergeSpare
unfolding code_of letter is_name name_word name_of is_name_word is_number numeral left_justified right_justified blanks words_of text_words says is_text line_of after_line lines kind_of name_of_line kind_of_line field is_clean is_card card_named asked directive yank_names call_of check card_words encode within_limits stream entry_of deck_names deck_line active targets yanks_of settled_yanks yanked update running find step compiling view printed called_deck merging within_counts MergeSpare
merge-spare = tt

pub numbers-spare : NumbersSpare
unfolding code_of letter is_name name_word name_of is_name_word is_number numeral left_justified right_justified blanks words_of text_words says is_text line_of after_line lines kind_of name_of_line kind_of_line field is_clean is_card card_named asked directive yank_names call_of check card_words encode within_limits stream entry_of deck_names deck_line active targets yanks_of settled_yanks yanked update running find step compiling view printed called_deck merging further_len card_len cards_by byte_raised word_raised further_raised card_raised NumbersSpare
numbers-spare = tt

pub file-spare : FileSpare
unfolding code_of letter is_name name_word name_of is_name_word is_number numeral left_justified right_justified blanks words_of text_words says is_text line_of after_line lines kind_of name_of_line kind_of_line field is_clean is_card card_named asked directive yank_names call_of check card_words encode within_limits stream entry_of deck_names deck_line active targets yanks_of settled_yanks yanked update running find step compiling view printed called_deck merging FileSpare
file-spare = tt

pub yank-met : YankMet
unfolding code_of letter is_name name_word name_of is_name_word is_number numeral left_justified right_justified blanks words_of text_words says is_text line_of after_line lines kind_of name_of_line kind_of_line field is_clean is_card card_named asked directive yank_names call_of check card_words encode within_limits stream entry_of deck_names deck_line active targets yanks_of settled_yanks yanked update running find step compiling view printed called_deck merging YankMet
yank-met = tt

pub yank-spare : YankSpare
unfolding code_of letter is_name name_word name_of is_name_word is_number numeral left_justified right_justified blanks words_of text_words says is_text line_of after_line lines kind_of name_of_line kind_of_line field is_clean is_card card_named asked directive yank_names call_of check card_words encode within_limits stream entry_of deck_names deck_line active targets yanks_of settled_yanks yanked update running find step compiling view printed called_deck merging YankSpare
yank-spare = tt
