use borrow.Author.Rules.{rules}
use Rattle.words_text_expand.proofs.SaidColumns.{word-start, code_fits, word_more, word_end}
use Rattle.words_text_expand.proofs.say.say_word.Goals as goal

pub loop-k-init : goal.loop-k-init
loop-k-init c =
    word-start c.args.word c.args.s.ahead c.args.s.at c.args.line.now c.requires.word_bound c.requires.word_in_bounds

pub say_code-said-requires-clause-c_in_bounds : goal.say_code-said-requires-clause-c_in_bounds
say_code-said-requires-clause-c_in_bounds c =
    let a = c.args in
    let l = c.loop-k in
    code_fits a.word a.s.ahead a.s.at a.line.now l.line l.w l.said.ahead l.said.at l._k l.invariant c.loop-k-test.true

pub loop-k-preserved : goal.loop-k-preserved
loop-k-preserved c =
    let a = c.args in
    let l = c.loop-k in
    let s = c.say_code-said in
    word_more a.word a.s.ahead a.s.at a.line.now l.line l.w l.said.ahead l.said.at l._k l.invariant c.loop-k-test.true s.new.line s.result.ahead s.result.at (search rules) (s.ensures.at_value, (s.ensures.line_after, (s.ensures.line_unchanged, s.ensures.ahead_value)))

pub returns-clause-at_value : goal.returns-clause-at_value
returns-clause-at_value c =
    let a = c.args in
    let l = c.loop-k in
    (word_end a.word a.s.ahead a.s.at a.line.now l.line l.w l.said.ahead l.said.at l._k l.invariant c.loop-k-test.false).0
