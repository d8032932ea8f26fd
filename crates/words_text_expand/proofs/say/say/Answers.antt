use borrow.Author.Rules.{rules}
use Rattle.words_text_expand.proofs.SaidColumns.{text-start, word_fits, text-more}
use Rattle.words_text_expand.proofs.say.say.Goals as goal

pub loop-word-init : goal.loop-word-init
loop-word-init c = text-start c.args.text.now c.args.line.now c.requires.text_value c.requires.line_len

pub say_word-said-requires-clause-word_in_bounds : goal.say_word-said-requires-clause-word_in_bounds
say_word-said-requires-clause-word_in_bounds c =
    let l = c.loop-word in
    word_fits c.args.text.now c.args.line.now l.line l.said.ahead l.said.at l.word-index l.invariant c.loop-word-test.true

pub loop-word-preserved : goal.loop-word-preserved
loop-word-preserved c =
    let l = c.loop-word in
    let s = c.say_word-said in
    text-more c.args.text.now c.args.line.now l.line l.said.ahead l.said.at l.word-index l.invariant c.loop-word-test.true s.new.line s.result.ahead s.result.at (search rules) (s.ensures.at_value, (s.ensures.line_after, (s.ensures.line_unchanged, s.ensures.ahead_value)))
