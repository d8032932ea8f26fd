-- The names passed are marked, those left are still to come.
use Rattle.std.proofs.Common.{◌≡◌, map}
use Rattle.words.specs.Spelt.{word_of_name}
use Rattle.words_lines.specs.Directive.{params}
use Rattle.words_lines_asked.specs.Parameters.{names_left}
use Rattle.library_yanks.specs.Flags.{marked}
use Rattle.library_yanks.proofs.marks.mark_names.Given as goal

abbrev pub invariant-loop-word : goal.invariant-loop-word
invariant-loop-word l = marked l.index.names.now (names_left l.word-iterator) l.flags ≡ marked l.index.names.now (map word_of_name (params l.field)) l.initial.flags
