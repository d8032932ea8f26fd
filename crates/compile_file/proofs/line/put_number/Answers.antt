-- The byte stands where the decimals end. Assumes nothing.
use native.Mathlib.Omega.{arith}
use Rattle.compile_file.proofs.RefusalLine.{part-put}
use Rattle.compile_file.proofs.line.put_number.Goals as goal

pub returns : goal.returns
returns c =
    let a = c.args in
    let p = c.put_numeral-end in
    let e = part-put a.n a.then a.out.now a.at p.result _ c.requires p.auto.out (p.ensures.value.0, p.ensures.out_after) in
    record { value = (e.0, omega (arith, p.ensures.value.1)); out_after = e.1 }
