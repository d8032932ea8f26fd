-- The text is copied, and what is left is filled with blanks.
use Rattle.compile_walk.proofs.LineColumns.{left_put}
use Rattle.compile_walk.proofs.line.put_left.Goals as goal

pub returns : goal.returns
returns c =
    let n = c.least-n in
    left_put c.args.text.now c.args.field.now _ _ n.result n.ensures.value n.ensures.upper_bound.0 n.ensures.upper_bound.1 c.put.ensures (c.fill.ensures.after (λ y e. e))
