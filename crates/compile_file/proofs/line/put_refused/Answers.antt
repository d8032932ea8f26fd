-- The parts of the line stand one after another. Assumes nothing.
use native.Mathlib.Omega.{arith}
use Rattle.compile_file.proofs.RefusalLine.{refused-put}
use Rattle.compile_file.proofs.line.put_refused.Goals as goal

pub returns : goal.returns
returns c =
    let a = c.args in
    let t = c.put_text-number in
    let n = c.put_number-after in
    let p = c.put_number in
    refused-put a.out.now _ _ a.n t.result n.result (omega arith) (t.ensures.value, t.ensures.out_after) (n.ensures.value.0, n.ensures.out_after) a.place p.result _ (p.ensures.value.0, p.ensures.out_after)
