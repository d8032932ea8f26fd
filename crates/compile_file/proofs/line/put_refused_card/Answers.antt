-- The parts of the line stand one after another. Assumes nothing.
use native.Mathlib.Omega.{arith}
use Rattle.compile_file.proofs.RefusalLine.{card-put}
use Rattle.compile_file.proofs.line.put_refused_card.Goals as goal

pub returns : goal.returns
returns c =
    let a = c.args in
    let t = c.put_text-number in
    let n = c.put_number-card in
    let o = c.put_number-sequence in
    let s = c.put_number in
    card-put a.out.now _ _ a.n t.result n.result (omega arith) (t.ensures.value, t.ensures.out_after) (n.ensures.value.0, n.ensures.out_after) a.owner a.seq o.result s.result _ _ (omega arith) (o.ensures.value.0, o.ensures.out_after) (s.ensures.value.0, s.ensures.out_after)
