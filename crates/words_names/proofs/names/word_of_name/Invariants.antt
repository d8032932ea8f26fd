-- `names::word_of_name` is right because the word so far, packed with the letters left, is always the name's word. Assumes nothing.
use Rattle.words.proofs.NameWord.{Packed}
use Rattle.words_names.proofs.names.word_of_name.Given as goal

abbrev pub invariant-loop-b : goal.invariant-loop-b
invariant-loop-b l = Packed l.name l.w l.b-index
