use Rattle.words_text_form.proofs.FormWalk.{walked_start, walked_more}
use Rattle.words_text_form.proofs.form.walk_word.Goals as goal

pub loop-k-init : goal.loop-k-init
loop-k-init c =
    let f = c.args.from in
    walked_start c.args.word f.state.place f.columns c.requires.word_bound f.state.in_sixes f.state.in_fields

pub loop-k-preserved : goal.loop-k-preserved
loop-k-preserved c =
    let f = c.args.from in
    let l = c.loop-k in
    walked_more c.args.word f.state.place f.columns l.w l.walk.state.place l.walk.columns l._k l.invariant c.step.result.place c.columns_in.result c.loop-k-test.true (c.step.ensures, c.step.result.in_fields) c.columns_in.ensures
