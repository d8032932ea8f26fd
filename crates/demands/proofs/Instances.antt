-- B1 and B2 are met by the shown sets, and without any one of their hypotheses they can fail.
use Prim.Native.Nat.{ℕ}
use mathlib.Core.Path.{◌≡◌, refl}
use mathlib.Core.List.{List, [], ◌∷◌}
use lib.Dec.{T}
use Rattle.words.specs.Display.{code_of, letter}
use Rattle.words.specs.Names.{is_name, name_word, name_of, is_name_word, is_number, numeral, left_justified, right_justified}
use Rattle.words.specs.Text.{blanks, words_of, text_words, says, is_text}
use Rattle.words_lines.specs.Directive.{lines, kind_of, name_of_line, kind_of_line, field, is_clean, is_card, card_named, asked, directive, yank_names, call_of}
use Rattle.words_lines.specs.FirstLine.{line_of, after_line}
use Rattle.library.specs.Check.{check}
use Rattle.library.specs.Image.{card_words, encode, within_limits}
use Rattle.library.specs.Library.{stream, entry_of, deck_names, deck_line}
use Rattle.library.specs.Yanks.{active, targets, yanks_of, settled_yanks, yanked}
use Rattle.run_meaning.specs.Run.{Running, new_library, bad_library, bad_stream, update, running}
use Rattle.run_meaning.specs.Step.{find, step}
use Rattle.compile.specs.Compile.{compiling}
use Rattle.compile_walk.specs.View.{view}
use Rattle.compile_walk.specs.Walk.{printed, called_deck}
use Rattle.demands.specs.Demands.{Runs, no_run, one_run}
use Rattle.demands.specs.Instances.{one, two, three, written_by, wrote_one, ran_on, written, before, corrected, back, ShownBack, NoneSpare}

wrote_one_lem : (r : Running) → T (wrote_one r) → r ≡ new_library (written_by r)
wrote_one_lem (new_library l) t = refl
wrote_one_lem (bad_library f p) t = absurd t
wrote_one_lem (bad_stream w n) t = absurd t

run-written : (image x : List ℕ) → T (wrote_one (ran_on image x)) → Runs image (x ∷ []) (written image x)
run-written image x t = one_run 65536 (written_by (ran_on image x)) (wrote_one_lem (ran_on image x) t) no_run

pub shown-back : ShownBack
unfolding code_of letter is_name name_word name_of is_name_word is_number numeral left_justified right_justified blanks words_of text_words says is_text line_of after_line lines kind_of name_of_line kind_of_line field is_clean is_card card_named asked directive yank_names call_of check card_words encode within_limits stream entry_of deck_names deck_line active targets yanks_of settled_yanks yanked update running find step compiling view printed called_deck
shown-back = record {
  sets = record { runs = run-written before one tt; sets = (tt, tt) };
  yanked = record { runs = run-written corrected two tt; yanks = tt; exactly = tt };
  again = record { runs = run-written back three tt; yanks = tt; exactly = tt };
  first = tt;
  changed = tt;
}

pub none-spare : NoneSpare
unfolding code_of letter is_name name_word name_of is_name_word is_number numeral left_justified right_justified blanks words_of text_words says is_text line_of after_line lines kind_of name_of_line kind_of_line field is_clean is_card card_named asked directive yank_names call_of check card_words encode within_limits stream entry_of deck_names deck_line active targets yanks_of settled_yanks yanked update running find step compiling view printed called_deck NoneSpare
none-spare = tt
