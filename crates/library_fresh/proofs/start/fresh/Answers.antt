-- The three words are those of the fresh library.
use Rattle.library_fresh.proofs.FreshWords.{fresh-short, fresh-put}
use Rattle.library_fresh.proofs.start.fresh.Goals as goal

pub returns-then-space-lt-WORDS : goal.returns-then-space-lt-WORDS
returns-then-space-lt-WORDS c = record { answer = (fresh-short c.args.space.now c.if-space-lt-WORDS.true).0; space = (fresh-short c.args.space.now c.if-space-lt-WORDS.true).1 }

pub returns : goal.returns
returns c = record { answer = (fresh-put c.args.space.now _ _ c.if-space-lt-WORDS.false c.header_word.ensures c.reserved_word.ensures).0; space = (fresh-put c.args.space.now _ _ c.if-space-lt-WORDS.false c.header_word.ensures c.reserved_word.ensures).1 }
