use mathlib.Core.Path.{sym, ◌∙◌}
use Rattle.words_text_form.proofs.FormWalk.{long-text, not_full, walking-stop, walking-more, walking-end}
use Rattle.words_text_form.proofs.form.is_text.Goals as goal

pub returns-then-text-gt-WORDS : goal.returns-then-text-gt-WORDS
returns-then-text-gt-WORDS c = sym (long-text c.args.text.now c.if-text-gt-WORDS.true)

pub returns-then-not-ends_full : goal.returns-then-not-ends_full
returns-then-not-ends_full c = sym (not_full c.args.text.now (sym c.ends_full.ensures ∙ c.if-not-ends_full.true))

pub returns-then-word-ge-SIXTY : goal.returns-then-word-ge-SIXTY
returns-then-word-ge-SIXTY c =
    let l = c.loop-word in
    sym (walking-stop c.args.text.now l.walk.state.place l.walk.columns l.word-index l.invariant c.loop-word-test.true c.if-word-ge-SIXTY.true)

pub loop-word-preserved : goal.loop-word-preserved
loop-word-preserved c =
    let l = c.loop-word in
    let w = c.walk_word-walk in
    walking-more c.args.text.now l.walk.state.place l.walk.columns l.word-index l.invariant w.result.state.place w.result.columns c.loop-word-test.true c.if-word-ge-SIXTY.false (w.ensures.state_value, (w.result.state.in_fields, (w.ensures.columns_value, w.ensures.columns_bound_2)))

pub returns : goal.returns
returns c =
    let l = c.loop-word in
    c.may_end.ensures ∙ walking-end c.args.text.now l.walk.state.place l.walk.columns l.word-index l.invariant c.loop-word-test.false
