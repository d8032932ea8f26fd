-- A number past the directory has no word; any other's stands after the two words of the header.
use Rattle.keeper_card.proofs.EntryOrZero.{word_none, word-past, word_in}
use Rattle.keeper_card.proofs.entry_words.entry_word.Goals as goal

pub returns-then-n-eq0 : goal.returns-then-n-eq0
returns-then-n-eq0 c = let a = c.args in word_none a.image.now a.n c.if-n-eq0.true

pub returns-then-entries_of-n : goal.returns-then-entries_of-n
returns-then-entries_of-n c = let a = c.args in word-past a.image.now a.n _ c.entries_of.ensures.0 c.if-entries_of-n.true

pub returns : goal.returns
returns c = let a = c.args in word_in a.image.now a.n _ c.entries_of.ensures.0 _ c.if-n-eq0.false c.if-entries_of-n.false c.word_at.ensures
